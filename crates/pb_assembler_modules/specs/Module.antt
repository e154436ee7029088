-- The module that the compile scheme makes of a text: its sorts, signs, names, carriers and initial
-- instance are those of the text, and the code of each equation is the scheme's.
use Rattle.std.specs.Prelude.{◌≡◌, ⊤, List, [], ◌∷◌, map}
use Rattle.std.specs.List.{position_or_len}
use Rattle.pb_text_meaning.specs.Syntax.{same_name, Enumerator, Sort, Struct, Alias, SortDeclaration, Equation, Spec}
use Rattle.pb_text_meaning.specs.Value.{values}
use Rattle.pb_bytecode_program.specs.declared.version.Version.TheVariants as version
use Rattle.pb_bytecode.specs.Contents.{SortContents, EquationContents, Contents}
use Rattle.pb_bytecode.specs.Meaning.{program_of}
use Rattle.pb_normal.specs.Equations.{normal_equation}
use Rattle.pb_normal.specs.Loops.{variable_shapes}
use Rattle.pb_normal.specs.View.{shapes_of}
use Rattle.pb_assembler_scheme.specs.Correct.{IsCompiled}
use Rattle.pb_assembler_scheme.specs.Limits.{KeepsLimits}

abbrev pub with_names : Sort → List SortContents → List SortContents
with_names (Struct es) sorts = map (λ (e : Enumerator). e.name) es ∷ sorts
with_names (Alias s) sorts = sorts

-- the names of each struct's enumerators, in order
abbrev pub struct_names : List SortDeclaration → List SortContents
struct_names [] = []
struct_names (d ∷ ds) = with_names d.sort (struct_names ds)

pub record IsEquationOf (spec : Spec) (m : Contents) (X : Equation) (e : EquationContents)
    : Type 0 where
  pub sign : e.sign ≡ X.sign
  pub name : e.name ≡ X.name
  pub parameters : shapes_of e.parameters ≡ variable_shapes spec X.parameters
  pub compiled : IsCompiled (program_of m e) (normal_equation spec X)

-- one for each, in order
abbrev pub AreEquationsOf : Spec → Contents → List Equation → List EquationContents → Type 0
AreEquationsOf spec m [] [] = ⊤
AreEquationsOf spec m (X ∷ E) (e ∷ es) = IsEquationOf spec m X e × AreEquationsOf spec m E es
AreEquationsOf spec m [] (e ∷ es) = ⊥
AreEquationsOf spec m (X ∷ E) [] = ⊥

pub record IsCompiledModule (spec : Spec) (m : Contents) : Type 0 where
  pub version : m.version ≡ version.One
  pub sorts : m.sorts ≡ struct_names spec.sorts
  pub equations : AreEquationsOf spec m spec.equations m.equations
  pub initial :
      m.initial.equation
      ≡ position_or_len (λ (X : Equation). same_name X.name spec.initial) spec.equations
  pub values : m.initial.values ≡ values spec [] spec.arguments

-- the code of each equation keeps the machine's limits
abbrev pub KeepLimits : Spec → Contents → List Equation → List EquationContents → Type 0
KeepLimits spec m (X ∷ E) (e ∷ es) =
    KeepsLimits (program_of m e) (normal_equation spec X) × KeepLimits spec m E es
KeepLimits spec m E es = ⊤

abbrev pub KeepsAllLimits : Spec → Contents → Type 0
KeepsAllLimits spec m = KeepLimits spec m spec.equations m.equations
