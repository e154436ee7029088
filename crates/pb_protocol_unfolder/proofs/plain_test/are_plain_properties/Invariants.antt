use Rattle.std.proofs.Common.{◌≡◌, drop, map}
use Rattle.std.specs.List.{list_all}
use Rattle.pb_protocol_tree.specs.Form.{property_form}
use Rattle.pb_protocol_unfolder.specs.Plain.{is_plain_property}
use Rattle.pb_protocol_unfolder.proofs.plain_test.are_plain_properties.Given as goal

abbrev pub invariant-loop-property : goal.invariant-loop-property
invariant-loop-property l = list_all is_plain_property (map property_form (drop l.property-index l.properties)) ≡ list_all is_plain_property (map property_form l.properties)
