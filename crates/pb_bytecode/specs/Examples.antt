-- The answers of small modules whose trees are given, so that their code doesn't count.
use Rattle.std.specs.Prelude.{ℤ, Bool, List, [], ◌∷◌, codes}
use Rattle.pb_fixpoint.specs.declared.Sign.{Sign}
use Rattle.pb_fixpoint.specs.declared.Sign.TheVariants.{Mu}
use Rattle.pb_fixpoint_trees.specs.Tree.{Single, Yes, No, Call}
use Rattle.pb_fixpoint_trees.specs.Examples.{tree_at}
use Rattle.pb_sorts.specs.declared.carrier.Carrier.{Carrier}
use Rattle.pb_sorts.specs.declared.carrier.Carrier.TheVariants as carrier
use Rattle.pb_bytecode_program.specs.declared.version.Version.TheVariants as version
use Rattle.pb_bytecode.specs.Contents.{EquationContents, Contents}
use Rattle.pb_bytecode.specs.Meaning.{answer}

abbrev pub equation_of : Sign → List Carrier → EquationContents
equation_of sign parameters =
    record {
      sign = sign;
      name = codes "X";
      parameters = parameters;
      loops = [];
      steps = 1;
      tokens = 1;
      code = [];
    }

-- the first equation's instance with these values is the initial one
abbrev pub module_of : List EquationContents → List ℤ → Contents
module_of equations values =
    record {
      version = version.One;
      sorts = [];
      equations = equations;
      initial = record { equation = 0; values = values };
    }

-- X = X
abbrev pub alone : Sign → Bool
alone sign = answer (module_of (equation_of sign [] ∷ []) []) (tree_at (Single (Call 0) ∷ []))

-- X = Y before Y = X
abbrev pub crossed : Sign → Sign → Bool
crossed x y =
    answer (module_of (equation_of x [] ∷ (equation_of y [] ∷ [])) [])
    (tree_at (Single (Call 1) ∷ (Single (Call 0) ∷ [])))

-- X(b: Bool), which is true for `true` alone
abbrev pub started_at : ℤ → Bool
started_at value =
    answer (module_of (equation_of Mu (carrier.Bool ∷ []) ∷ []) (value ∷ []))
    (tree_at (Single No ∷ (Single Yes ∷ [])))
