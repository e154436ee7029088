-- What the scheme's programs of equations decide.
use Rattle.std.specs.Prelude.{◌≡◌, ℕ, map}
use Rattle.pb_fixpoint.specs.Solution.{Environment}
use Rattle.pb_fixpoint.specs.Transfer.{Matches}
use Rattle.pb_base_values.specs.Carrier.{Tuple}
use Rattle.pb_sorts.specs.Carrier.{values_of}
use Rattle.pb_sorts.specs.Layout as layout
use Rattle.pb_fixpoint_trees.specs.Tree.{Tree, tree_truth}
use Rattle.pb_text_meaning.specs.Syntax.{Equation, Spec}
use Rattle.pb_text_meaning.specs.Formula.{Instance, carriers_of, is_instance}
use Rattle.pb_text_meaning.specs.Meaning.{equation_of}
use Rattle.pb_typing_values.specs.Environment.{all_carriers}
use Rattle.pb_bytecode_program.specs.Machine.{Program}
use Rattle.pb_bytecode_program.specs.Safety.{AreArguments, EndsWith}
use Rattle.pb_normal.specs.Equations.{normal_equation}
use Rattle.pb_assembler_scheme.specs.Correct.{IsCompiled, number_in}

-- the scheme's program of an equation: that of its normal form, with the carriers of all parameters
pub record IsProgramOf (spec : Spec) (X : Equation) (p : Program) : Type 0 where
  pub compiled : IsCompiled p (normal_equation spec X)
  pub parameters : map values_of p.parameters ≡ carriers_of spec X.parameters
  pub callees : layout.carriers_of p.callees ≡ all_carriers spec

-- a tree with which the program's run ends is true exactly where the equation holds
abbrev pub DecidesEquation : Spec → Equation → Program → Type 0
DecidesEquation spec X p =
    (tuple : Tuple) (tree : Tree) → AreArguments p.parameters tuple → EndsWith p tuple tree
    → (numbers : Environment ℕ) (t : Environment Instance)
    → Matches (is_instance spec) (number_in spec) numbers t
    → tree_truth numbers tree
    ≡ (equation_of spec X).holds (record { name = X.name; values = tuple }) t
