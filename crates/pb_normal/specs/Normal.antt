-- Formulas in positive normal form, whose variables are slots: negation stands on data alone. What
-- they mean. Data terms and arguments are those of typed trees.
use Rattle.std.specs.Prelude.{ℕ, Bool, ◌&&◌, ◌||◌, List}
use Rattle.pb_fixpoint.specs.Solution.{Environment}
use Rattle.pb_text_tree.specs.declared.operator.Quantifier.{Quantifier}
use Rattle.pb_text_meaning.specs.Syntax.{Spec}
use Rattle.pb_text_meaning.specs.Value.{is_true, of_values}
use Rattle.pb_text_meaning.specs.Formula.{Instance, call_truth}
use Rattle.pb_typing_declarations.specs.Shapes.{Shape, shape_carrier}
pub use Rattle.pb_typing_tree.specs.Tree.{Term, Number, Slot, Negative, Absolute, Successor}
pub use Rattle.pb_typing_tree.specs.Tree.{Predecessor, Binary, Maximum, Minimum, Choice, Recognised}
pub use Rattle.pb_typing_tree.specs.Tree.{Argument}
pub use Rattle.pb_typing_tree.specs.Meaning.{Slots, set, value, name_of, called_instance}
use Rattle.pb_fixpoint_trees.specs.declared.junction.Junction.{Junction}
pub use Rattle.pb_fixpoint_trees.specs.Junctions.{joined}

-- Each is for all values of a slot, or for some. Call names an equation by its place.
pub data Formula : Type 0 where
  Test : Term → Formula
  Join : Junction → Formula → Formula → Formula
  Each : Quantifier → (slot : ℕ) → Shape → Formula → Formula
  Call : (equation : ℕ) → List Argument → Formula

-- ---- meaning

abbrev pub truth : Spec → Slots → Environment Instance → Formula → Bool
truth spec a t (Test x) = is_true (value a x)
truth spec a t (Join m f g) = joined m (truth spec a t f) (truth spec a t g)
truth spec a t (Each q s carrier f) =
    of_values q (λ v. truth spec (set a s v) t f) (shape_carrier carrier)
truth spec a t (Call X es) = call_truth spec t (called_instance spec a X es)
