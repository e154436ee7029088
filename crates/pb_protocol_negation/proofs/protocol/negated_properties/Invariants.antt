use Rattle.std.proofs.Common.{◌≡◌, map}
use Rattle.pb_protocol_tree.specs.Form.{property_form}
use Rattle.pb_protocol_negation.specs.Negated.{negated_property}
use Rattle.pb_protocol_negation.proofs.protocol.negated_properties.Given as goal

abbrev pub invariant-loop-property : goal.invariant-loop-property
invariant-loop-property l = map property_form l.negations.items ≡ map negated_property (map property_form l.yielded)
