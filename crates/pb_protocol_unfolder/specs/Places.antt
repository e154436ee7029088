-- Where the properties of a flat model go on in the same state.
use Rattle.std.specs.Prelude.{List, [], ◌∷◌, ◌++◌, Contains}
use Rattle.pb_text_tree.specs.declared.place.Place.{Place}
use Rattle.pb_model_tree.specs.Form as flat
use Rattle.pb_model_tree.specs.declared.formula.Link as flat_link
use Rattle.pb_protocol_tree.specs.Form.{FormulaForm, PropertyForm, ProtocolForm, formula_form}
use Rattle.pb_protocol_tree.specs.declared.formula.Formula as declared_formula
use Rattle.pb_protocol_tree.specs.declared.formula.Link as declared_link
use Rattle.pb_protocol_folding.specs.Places.{places_of}
pub use Rattle.pb_protocol_folding.specs.Places.{flat_places}

-- at fixpoints and at their variables
abbrev pub formula_places : FormulaForm → List Place
formula_places (FormulaForm.constant p b) = []
formula_places (FormulaForm.«data» p x) = []
formula_places (FormulaForm.variable x) = x.place ∷ []
formula_places (FormulaForm.negation p f) = formula_places f
formula_places (FormulaForm.connected c p f g) = formula_places f ++ formula_places g
formula_places (FormulaForm.modal k p A f) = formula_places f
formula_places (FormulaForm.fixpoint sign p x f) = p ∷ formula_places f
formula_places (FormulaForm.quantified q p xs f) = formula_places f

-- where one of the flat properties does, one of the others does
abbrev pub HavePlaces : List PropertyForm → List flat.PropertyForm → Type 0
HavePlaces properties flat_properties =
    (q : flat.PropertyForm) → Contains flat_properties q →
    (p : PropertyForm) × Contains properties p
    × ((x : Place) → Contains (flat_places q.formula) x → Contains (formula_places p.formula) x)

-- where a property of the model does, one of the protocol does
abbrev pub HavePlacesOf : ProtocolForm → flat.ModelForm → Type 0
HavePlacesOf protocol m = HavePlaces protocol.properties m.properties

-- ---- of the trees

-- those of a formula as it is written
abbrev pub places_in : declared_formula.Formula → List Place
places_in f = formula_places (formula_form f)

-- those of operands of a chain
abbrev pub flat_link_places : flat_link.Link → List Place
flat_link_places link = places_of link.operand

abbrev pub link_places : declared_link.Link → List Place
link_places link = places_in link.operand
