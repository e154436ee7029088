-- What the parts of a compiled module are made of.
use Rattle.std.specs.Prelude.{◌≡◌, ◌≤◌, Bool, true, ◌&&◌, ⊤, List, [], ◌∷◌, length}
use Rattle.std.specs.List.{list_all}
use Rattle.pb_base.specs.declared.limits.TheConstants.{MAX_ENUMERATORS}
use Rattle.pb_sorts.specs.declared.carrier.Carrier.{Carrier}
use Rattle.pb_sorts.specs.declared.carrier.Carrier.TheVariants as carrier
use Rattle.pb_text_tree.specs.Form.{EquationForm}
use Rattle.pb_text_meaning.specs.Syntax.{Enumerator, Sort, Struct, Alias, SortDeclaration}
use Rattle.pb_bytecode.specs.Contents.{EquationContents}
use Rattle.pb_bytecode.specs.Limits.{is_byte, is_i32}
use Rattle.pb_bytecode.specs.Names.{is_module_name}
use Rattle.pb_bytecode_program.specs.Counts.{static_steps, static_tokens}
use Rattle.pb_bytecode_program.specs.Machine.{Program}
use Rattle.pb_normal.specs.View.{formula_view}
use Rattle.pb_normal.specs.declared.normal.Equation.{Equation}
use Rattle.pb_assembler_scheme.specs.Correct.{quantifiers, slots_from}
use Rattle.pb_assembler_scheme.specs.Scheme.{equation_code}
use Rattle.pb_assembler_scheme.specs.Limits.{KeepsLimits}
use Rattle.pb_normal.specs.Small.{is_small_formula}

-- the scheme's program of an equation whose parameters have these carriers, without sorts and
-- stated counts
abbrev pub bare_program : List (List Carrier) → List Carrier → Equation → Program
bare_program callees parameters X = record {
  sorts = [];
  callees = callees;
  parameters = parameters;
  loops = X.loops.now;
  stated_steps = 0;
  stated_tokens = 0;
  code = equation_code callees (formula_view X.right);
}

-- an equation's sign, name, carriers and code, with exactly its static counts
abbrev pub compiled_contents :
    List (List Carrier) → List Carrier → EquationForm → Equation → EquationContents
compiled_contents callees parameters text X = record {
  sign = text.sign;
  name = text.name.text;
  parameters = parameters;
  loops = X.loops.now;
  steps = static_steps (bare_program callees parameters X);
  tokens = static_tokens (bare_program callees parameters X);
  code = equation_code callees (formula_view X.right);
}

-- one for each, in order
abbrev pub all_compiled :
    List (List Carrier) → List (List Carrier) → List EquationForm → List Equation
    → List EquationContents
all_compiled callees (cs ∷ css) (text ∷ texts) (X ∷ E) =
    compiled_contents callees cs text X ∷ all_compiled callees css texts E
all_compiled callees css texts E = []

-- ---- what may be compiled

-- a struct has names that a module may have, and at most MAX_ENUMERATORS enumerators
abbrev pub IsSort : Sort → Type 0
IsSort (Struct es) =
    (length es ≤ MAX_ENUMERATORS) × (list_all (λ (e : Enumerator). is_module_name e.name) es ≡ true)
IsSort (Alias s) = ⊤

abbrev pub AreSorts : List SortDeclaration → Type 0
AreSorts [] = ⊤
AreSorts (d ∷ ds) = IsSort d.sort × AreSorts ds

-- an equation that a module may have: its name, its numbers, its slots, and the code keeps the
-- machine's limits
pub record IsReadyToCompile
    (callees : List (List Carrier)) (parameters : List Carrier) (text : EquationForm) (X : Equation)
    : Type 0 where
  pub named : is_module_name text.name.text ≡ true
  pub small : is_small_formula (formula_view X.right) ≡ true
  pub slots : quantifiers (formula_view X.right) ≡ slots_from (length parameters) X.loops.now
  pub kept : KeepsLimits (bare_program callees parameters X) (formula_view X.right)

-- each of them, in order
abbrev pub AreReady :
    List (List Carrier) → List (List Carrier) → List EquationForm → List Equation → Type 0
AreReady callees [] [] [] = ⊤
AreReady callees (cs ∷ css) (text ∷ texts) (X ∷ E) =
    IsReadyToCompile callees cs text X × AreReady callees css texts E
AreReady callees css texts E = ⊥

-- ---- carriers, whose fields have so many bits

abbrev pub has_fitting_fields : Carrier → Bool
has_fitting_fields carrier.Bool = true
has_fitting_fields (carrier.Enum e) = is_byte e.sort
has_fitting_fields (carrier.Range r) = is_i32 r.low && is_i32 r.high

abbrev pub has_fitting_carriers : EquationContents → Bool
has_fitting_carriers e =
    list_all has_fitting_fields e.parameters && list_all has_fitting_fields e.loops
