use Rattle.std.proofs.Common.{◌≡◌, drop, map, Some}
use Rattle.std.specs.List.{list_any}
use Rattle.pb_protocol_tree.specs.Form.{property_form}
use Rattle.pb_model_sizes.specs.Sizes.{is_asked}
use Rattle.pb_model_sizes.proofs.property.has_property.Given as goal

-- no property so far has the name
abbrev pub invariant-loop-property : goal.invariant-loop-property
invariant-loop-property l =
    list_any (is_asked (Some l.name)) (map property_form l.properties) ≡ list_any (is_asked (Some l.name)) (map property_form (drop l.property-index l.properties))
