use Rattle.std.proofs.Common.{◌≡◌, drop, map}
use Rattle.pb_protocol_tree.specs.Form.{property_form}
use Rattle.pb_protocol_typing.specs.Fault.{first_fault}
use Rattle.pb_protocol_typing.specs.Faults.{property_fault}
use Rattle.pb_protocol_typing.specs.View.{scope_of, shapes_in}
use Rattle.pb_protocol_typing.proofs.protocol.properties_fault.Given as goal

-- the first fault is that of the properties that are left
abbrev pub invariant-loop-property : goal.invariant-loop-property
invariant-loop-property l =
    let fault = property_fault (shapes_in l.steps) (scope_of l.scope) in
    first_fault fault (map property_form l.properties) ≡ first_fault fault (map property_form (drop l.property-index l.properties))
