-- What the trees of a compiled module's instances say, beside what the text says.
use Rattle.std.specs.Prelude.{◌≡◌, ℕ, true, map, Some}
use Rattle.std.specs.List.{slice_get}
use Rattle.pb_fixpoint.specs.Solution.{Environment, solution, empty}
use Rattle.pb_fixpoint.specs.Transfer.{Matches}
use Rattle.pb_base_values.specs.Carrier.{Tuple}
use Rattle.pb_fixpoint_trees.specs.Tree.{Tree, tree_truth}
use Rattle.pb_fixpoint_trees.specs.Equations.{solved}
use Rattle.pb_text_meaning.specs.Syntax.{Equation, Spec}
use Rattle.pb_text_meaning.specs.Formula.{Instance, is_instance}
use Rattle.pb_text_meaning.specs.Meaning as text
use Rattle.pb_text_meaning.specs.Meaning.{equation_of, equations_of}
use Rattle.pb_bytecode_program.specs.Safety.{AreArguments}
use Rattle.pb_bytecode.specs.Contents.{EquationContents, Contents}
use Rattle.pb_bytecode.specs.Meaning.{signature_of, AreTrees, number_at, answer}
use Rattle.pb_assembler_scheme.specs.Correct.{number_in}

-- under every environment of numbers, each instance's tree is true exactly where the text's
-- equation holds there
abbrev pub TreesHold : Spec → Contents → (ℕ → Tree) → Type 0
TreesHold spec m trees =
    (k : ℕ) (X : Equation) (e : EquationContents) (values : Tuple)
    → slice_get spec.equations k ≡ Some X → slice_get m.equations k ≡ Some e
    → AreArguments e.parameters values
    → (numbers : Environment ℕ) (t : Environment Instance)
    → Matches (is_instance spec) (number_in spec) numbers t
    → tree_truth numbers (trees (number_at m k values))
    ≡ (equation_of spec X).holds (record { name = X.name; values = values }) t

-- each instance of the text is true exactly where its number is
abbrev pub SolutionsMatch : Spec → Contents → (ℕ → Tree) → Type 0
SolutionsMatch spec m trees =
    (i : Instance) → is_instance spec i ≡ true
    → solved (map signature_of m.equations) trees (number_in spec i)
    ≡ solution (equations_of spec) empty i

pub record SaysTheSame (spec : Spec) (m : Contents) (trees : ℕ → Tree) : Type 0 where
  pub answer : answer m trees ≡ text.answer spec
  pub solutions : SolutionsMatch spec m trees
  pub trees_hold : TreesHold spec m trees

-- whichever trees the runs of its instances end with, they say what the text says
abbrev pub HasMeaningOf : Spec → Contents → Type 0
HasMeaningOf spec m = (trees : ℕ → Tree) → AreTrees m trees → SaysTheSame spec m trees
