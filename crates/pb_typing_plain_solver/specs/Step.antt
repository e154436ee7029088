-- One step of the solver at the equation at a place, on lists of truths that stand for
-- environments.
use Rattle.std.specs.Prelude.{◌≡◌, ℕ, Bool, true, false, List, [], length, slice_index_or, Option}
use Rattle.std.specs.Prelude.{Some, None}
use Rattle.std.specs.List.{slice_get}
use Rattle.pb_fixpoint.specs.Solution.{Environment}
use Rattle.pb_base_values.specs.Carrier.{Tuple}
use Rattle.pb_sorts.specs.declared.carrier.Carrier.{Carrier}
use Rattle.pb_sorts.specs.Layout.{carriers_of}
use Rattle.pb_sorts.specs.Instance as numbered
use Rattle.pb_sorts.specs.Instance.{instances, owns_number}
use Rattle.pb_text_meaning.specs.Syntax.{Equation, Spec}
use Rattle.pb_text_meaning.specs.Formula.{Instance, truth}
use Rattle.pb_text_meaning.specs.Meaning.{assigned}
use Rattle.pb_typing_tree.specs.Fits.{AreClear, slot_count}
use Rattle.pb_typing_values.specs.Environment.{environment_of}
use Rattle.pb_typing_values.specs.Slots.{slots_of}
use Rattle.pb_typing_plain_solver.specs.Side.{side_of, later_truth}

-- Slots for an equation's right side: one for each parameter, and free ones for the variables of
-- its quantifiers.
pub record AreSlots (spec : Spec) (X : Equation) (slots : Tuple) : Type 0 where
  pub count : length slots ≡ slot_count spec X
  pub free : AreClear (length X.parameters) (slots_of slots)

-- the truth of an equation's right side at an instance, if there is one
abbrev pub right_truth : Spec → Environment Instance → Equation → Option numbered.Instance → Bool
right_truth spec t X None = false
right_truth spec t X (Some i) = truth spec (assigned X.parameters i.values []) t X.right

-- the same at a number
abbrev pub right_truth_at : Spec → Environment Instance → Equation → List (List Carrier) → ℕ → Bool
right_truth_at spec t X layout n =
    right_truth spec t X (slice_get (instances (carriers_of layout)) n)

-- only the set of the equation at place k is another
abbrev pub ChangesOnly : List (List Carrier) → ℕ → List Bool → List Bool → Type 0
ChangesOnly layout k old new =
    (n : ℕ) → owns_number (carriers_of layout) k n ≡ false
    → slice_index_or new n false ≡ slice_index_or old n false

-- the set of the equation at place k is the one in `from`
abbrev pub TakesSet : List (List Carrier) → ℕ → List Bool → List Bool → Type 0
TakesSet layout k from new =
    (n : ℕ) → owns_number (carriers_of layout) k n ≡ true
    → slice_index_or new n false ≡ slice_index_or from n false

-- each truth of X's set is later_truth with that of its right side under `below`
abbrev pub JoinsRight : Spec → List (List Carrier) → ℕ → Equation → List Bool → List Bool
    → List Bool → Type 0
JoinsRight spec layout k X below old new =
    (n : ℕ) → owns_number (carriers_of layout) k n ≡ true
    → slice_index_or new n false
    ≡ later_truth (side_of X.sign) (slice_index_or old n false)
    (right_truth_at spec (environment_of spec below) X layout n)
