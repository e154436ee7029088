-- What of a model's places runs are told by.
use Rattle.std.specs.Prelude.{List, map}
use Rattle.pb_text_tree.specs.declared.place.Place.{Place}
use Rattle.pb_text_tree.specs.Form.{Named}
use Rattle.pb_model_tree.specs.Form.{PropertyForm, ModelForm}
use Rattle.pb_model_runs.specs.Exact.{formula_places}

-- the names of properties, with their places
abbrev pub named_properties : ModelForm → List Named
named_properties m = map (λ (p : PropertyForm). p.name) m.properties

-- property by property, where its formula goes on in the same state
abbrev pub property_places : ModelForm → List (List Place)
property_places m = map (λ (p : PropertyForm). formula_places p.formula) m.properties
