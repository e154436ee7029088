-- Folding keeps the value of terms, and what flat models do.
use Rattle.std.specs.Prelude.{◌≡◌, Bool, true, false}
use Rattle.pb_text_meaning.specs.Syntax.{Term, Spec}
use Rattle.pb_text_meaning.specs.Value.{Assignment, is_true, value}
use Rattle.pb_model_meaning.specs.Syntax.{StepSet, Formula, Model}
use Rattle.pb_model_meaning.specs.Steps.{State, initial_state, successors}
use Rattle.pb_model_meaning.specs.Satisfaction.{Valuation, satisfying, satisfies}
use Rattle.pb_model_translation.specs.Positive.{HasPositiveCalls}
use Rattle.pb_protocol_folding.specs.Names.{AreDistinct, AreNot, names_of, enumerators_in}
use Rattle.pb_protocol_folding.specs.Names.{HidesNoEnumerator, HaveNoneOf, AssignOnce}
use Rattle.pb_protocol_folding.specs.Folding.{folded}
use Rattle.pb_protocol_folding.specs.FoldedModels.{is_left, folded_set, folded_property_formula}
use Rattle.pb_protocol_folding.specs.FoldedModels.{folded_model}

-- a folded term has the same truth, and where its value counts the same value
abbrev pub FoldingKeepsValues : Type 0
FoldingKeepsValues =
    (spec : Spec) (a : Assignment) → HidesNoEnumerator spec a → (x : Term) →
    (is_true (value spec a (folded spec true x)) ≡ is_true (value spec a x)) ×
    (value spec a (folded spec false x) ≡ value spec a x)

-- The names of a model's variables are apart, and none is an enumerator's; no step has a variable
-- of such a name, or assigns a variable twice.
pub record HidesNoNames (m : Model) : Type 0 where
  pub variables : AreDistinct (names_of m.variables)
  pub values : AreNot (enumerators_in m.sorts) (names_of m.variables)
  pub own : HaveNoneOf (names_of m.variables) m.steps
  pub own_values : HaveNoneOf (enumerators_in m.sorts) m.steps
  pub assignments : AssignOnce m.steps

-- a folded model begins where the model does
abbrev pub FoldingKeepsInitialStates : Type 0
FoldingKeepsInitialStates = (m : Model) → initial_state (folded_model m) ≡ initial_state m

-- its steps lead where those of the model do, also those of a set without the steps that are gone
abbrev pub FoldingKeepsSteps : Type 0
FoldingKeepsSteps =
    (m : Model) → HidesNoNames m → (A : StepSet) (s : State) →
    (successors (folded_model m) A s ≡ successors m A s) ×
    (successors (folded_model m) (folded_set (is_left m) A) s ≡ successors m A s)

-- and it satisfies what the model does
abbrev pub FoldingKeepsFormulas : Type 0
FoldingKeepsFormulas =
    (m : Model) → HidesNoNames m →
    ((V : Valuation) (f : Formula) (s : State) →
    satisfying (folded_model m) V (folded_property_formula m f) s ≡ satisfying m V f s) ×
    ((f : Formula) →
    satisfies (folded_model m) (folded_property_formula m f) ≡ satisfies m f)

-- where what a formula's right sides call stands under an even number of negations, so it does in
-- the folded formula
abbrev pub FoldingKeepsPositiveCalls : Type 0
FoldingKeepsPositiveCalls =
    (m : Model) (even : Bool) (f : Formula) → HasPositiveCalls even f →
    HasPositiveCalls even (folded_property_formula m f)
