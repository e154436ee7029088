-- Where formulas go on in the same state.
use Rattle.std.specs.Prelude.{List, [], ◌∷◌, ◌++◌, Contains}
use Rattle.pb_text_tree.specs.declared.place.Place.{Place}
use Rattle.pb_model_tree.specs.declared.formula.Formula as declared_formula
use Rattle.pb_model_tree.specs.Form.{FormulaForm, formula_form}

-- at fixpoints and at their variables
abbrev pub flat_places : FormulaForm → List Place
flat_places (FormulaForm.constant p b) = []
flat_places (FormulaForm.«data» p x) = []
flat_places (FormulaForm.variable x) = x.place ∷ []
flat_places (FormulaForm.negation p f) = flat_places f
flat_places (FormulaForm.connected c p f g) = flat_places f ++ flat_places g
flat_places (FormulaForm.modal k p A f) = flat_places f
flat_places (FormulaForm.fixpoint sign p x f) = p ∷ flat_places f

abbrev pub places_of : declared_formula.Formula → List Place
places_of f = flat_places (formula_form f)

-- each of the places is one of these
abbrev pub AreAmong : List Place → List Place → Type 0
AreAmong places these = (x : Place) → Contains places x → Contains these x
