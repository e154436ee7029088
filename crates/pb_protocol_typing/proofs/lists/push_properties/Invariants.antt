use Rattle.std.proofs.Common.{◌≡◌, ◌++◌, drop, flat_map, map}
use Rattle.pb_protocol_tree.specs.Form.{property_form}
use Rattle.pb_protocol_typing.specs.Lists.{property_lists}
use Rattle.pb_protocol_typing.specs.View.{list_forms}
use Rattle.pb_protocol_typing.proofs.lists.push_properties.Given as goal

-- the lists so far, and those that are left
abbrev pub invariant-loop-property : goal.invariant-loop-property
invariant-loop-property l =
    list_forms l.fn.lists.items ++ flat_map property_lists (map property_form l.properties)
    ≡ list_forms l.lists.items ++ flat_map property_lists (map property_form (drop l.property-index l.properties))
