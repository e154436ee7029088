use Rattle.std.proofs.Common.{◌≡◌, ◌++◌, drop, flat_map, map}
use Rattle.pb_model_tree.specs.Form.{property_form}
use Rattle.pb_protocol_typing.specs.View.{names_in}
use Rattle.pb_protocol_groups.specs.Bound.{property_bound_names}
use Rattle.pb_protocol_groups.proofs.bound_names.push_properties.Given as goal

abbrev pub invariant-loop-property : goal.invariant-loop-property
invariant-loop-property l =
    names_in l.initial.names.items ++ flat_map property_bound_names (map property_form l.properties)
    ≡ names_in l.names.items ++ flat_map property_bound_names (map property_form (drop l.property-index l.properties))
