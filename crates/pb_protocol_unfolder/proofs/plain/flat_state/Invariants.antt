use Rattle.std.proofs.Common.{◌≡◌, map, flat_map}
use Rattle.pb_text_tree.specs.Form.{variable_forms}
use Rattle.pb_protocol_tree.specs.Form.{state_variables_form}
use Rattle.pb_protocol_unfolder.specs.Plain.{flat_variable}
use Rattle.pb_protocol_unfolder.proofs.plain.flat_state.Given as goal

abbrev pub invariant-loop-group : goal.invariant-loop-group
invariant-loop-group l = variable_forms l.state.items ≡ map flat_variable (flat_map state_variables_form l.yielded)
