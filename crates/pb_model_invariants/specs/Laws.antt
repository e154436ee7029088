-- What the joint invariant says of each one.
use Rattle.std.specs.Prelude.{◌≡◌, true, List, Contains}
use Rattle.pb_text_tree.specs.declared.place.Place.{Place}
use Rattle.pb_model_tree.specs.Form.{FormulaForm}
use Rattle.pb_model_meaning.specs.Syntax.{Model}
use Rattle.pb_model_meaning.specs.Erase.{erased_formula}
use Rattle.pb_model_meaning.specs.Satisfaction.{satisfies}
use Rattle.pb_model_invariants.specs.Invariants.{is_invariant, joint}

-- a model that satisfies the joint invariant satisfies each: a set of states that is closed under
-- all steps and within several sets is so within each
abbrev pub JointInvariantsHold : Type 0
JointInvariantsHold =
    (m : Model) (p : Place) (fs : List FormulaForm) (f : FormulaForm) → Contains fs f →
    is_invariant f ≡ true → satisfies m (erased_formula (joint p fs)) ≡ true →
    satisfies m (erased_formula f) ≡ true
