use Rattle.std.proofs.Common.{◌≡◌, List, drop, map}
use Rattle.std.specs.List.{list_any}
use Rattle.pb_model_tree.specs.declared.model.Property.{Property}
use Rattle.pb_model_tree.specs.Form.{property_form}
use Rattle.pb_model_typing.specs.Data.{property_names_fixpoint}
use Rattle.pb_model_typing.proofs.data.model_names_fixpoint.Given as goal

-- what is looked for stands among those that are left, if it stands there
abbrev pub invariant-loop-property : goal.invariant-loop-property
invariant-loop-property l =
    let here = λ (ps : List Property). list_any (property_names_fixpoint l.place) (map property_form ps) in
    here l.model.properties.items ≡ here (drop l.property-index l.model.properties.items)
