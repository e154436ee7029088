use Rattle.std.proofs.Common.{◌≡◌, map}
use Rattle.pb_protocol_tree.specs.Form.{constant_form, definition_form}
use Rattle.pb_protocol_constants.specs.Settled.{definition_of_constant, place_of_constant}
use Rattle.pb_protocol_constants.proofs.valued.definitions_of.Given as goal

abbrev pub invariant-loop-constant : goal.invariant-loop-constant
invariant-loop-constant l = record {
  definitions : map definition_form l.definitions.items ≡ map definition_of_constant (map constant_form l.yielded);
  places : l.places.items ≡ map place_of_constant (map constant_form l.yielded);
}
