use Rattle.std.proofs.Common.{◌≡◌, ◌++◌, drop, map}
use Rattle.pb_protocol_tree.specs.Form.{property_form}
use Rattle.pb_protocol_typing.specs.Faults.{property_names}
use Rattle.pb_protocol_typing.specs.View.{names_in}
use Rattle.pb_protocol_typing.proofs.names.property_names.Given as goal

-- the names so far, and those that are left
abbrev pub invariant-loop-property : goal.invariant-loop-property
invariant-loop-property l = property_names (map property_form l.properties) ≡ names_in l.names.items ++ property_names (map property_form (drop l.property-index l.properties))
