-- Which step a place is the name of, where the names of steps and what a formula says of fixpoints
-- stand at places of their own; in a model that was read they do.
use Rattle.std.specs.Prelude.{Bool, true, false, not, ◌&&◌, ◌||◌, List, [], ◌∷◌, ◌++◌, map, Option}
use Rattle.std.specs.List.{find, list_any, list_all}
use Rattle.pb_text_tree.specs.declared.place.Place.{Place}
use Rattle.pb_text_meaning.specs.Syntax.{Name}
use Rattle.pb_model_tree.specs.Form.{FormulaForm, StepForm, ModelForm}
use Rattle.pb_model_meaning.specs.Erase.{erased_steps}
use Rattle.pb_model_meaning.specs.Steps.{has_step}
use Rattle.pb_typing_calls.specs.Calls.{same_place}

-- whether a modality of the formula speaks of the step of a name
abbrev pub speaks_of : FormulaForm → Name → Bool
speaks_of (FormulaForm.constant p b) x = false
speaks_of (FormulaForm.«data» p d) x = false
speaks_of (FormulaForm.variable y) x = false
speaks_of (FormulaForm.negation p f) x = speaks_of f x
speaks_of (FormulaForm.connected c p f g) x = speaks_of f x || speaks_of g x
speaks_of (FormulaForm.modal k p A f) x = has_step (erased_steps A) x || speaks_of f x
speaks_of (FormulaForm.fixpoint sign p y f) x = speaks_of f x

-- the step whose name stands at the place
abbrev pub step_at : ModelForm → Place → Option StepForm
step_at m p = find (λ (a : StepForm). same_place a.name.place p) m.steps

-- where a formula goes on in the same state: at its fixpoints and at their variables
abbrev pub formula_places : FormulaForm → List Place
formula_places (FormulaForm.constant p b) = []
formula_places (FormulaForm.«data» p x) = []
formula_places (FormulaForm.variable x) = x.place ∷ []
formula_places (FormulaForm.negation p f) = formula_places f
formula_places (FormulaForm.connected c p f g) = formula_places f ++ formula_places g
formula_places (FormulaForm.modal k p A f) = formula_places f
formula_places (FormulaForm.fixpoint sign p x f) = p ∷ formula_places f

abbrev pub step_places : List StepForm → List Place
step_places = map (λ (a : StepForm). a.name.place)

abbrev pub is_among : List Place → Place → Bool
is_among ps p = list_any (λ q. same_place q p) ps

abbrev pub are_apart : List Place → Bool
are_apart [] = true
are_apart (p ∷ ps) = not (is_among ps p) && are_apart ps

-- no two steps have their names at one place, and none has it where the formula goes on
abbrev pub stand_apart : ModelForm → FormulaForm → Bool
stand_apart m f =
    are_apart (step_places m.steps)
    && list_all (λ p. not (is_among (step_places m.steps) p)) (formula_places f)
