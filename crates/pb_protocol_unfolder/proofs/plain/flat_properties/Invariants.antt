use Rattle.std.proofs.Common.{◌≡◌, map}
use Rattle.pb_model_tree.specs.Form as flat
use Rattle.pb_protocol_tree.specs.Form.{property_form}
use Rattle.pb_protocol_unfolder.specs.Plain.{flat_property}
use Rattle.pb_protocol_unfolder.proofs.plain.flat_properties.Given as goal

abbrev pub invariant-loop-property : goal.invariant-loop-property
invariant-loop-property l = map flat.property_form l.flat_properties.items ≡ map flat_property (map property_form l.yielded)
