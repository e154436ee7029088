use Rattle.std.proofs.Common.{◌≡◌, ◌++◌, map, drop}
use Rattle.std.specs.Prelude.{flat_map}
use Rattle.pb_protocol_tree.specs.Form.{state_variables_form}
use Rattle.pb_protocol_meaning.specs.Erase.{erased_state_variable}
use Rattle.pb_protocol_unfolder_terms.specs.Contexts.{state_variable_of}
use Rattle.pb_protocol_unfolder_terms.proofs.protocol.state_variables.Given as goal

abbrev pub invariant-loop-group : goal.invariant-loop-group
invariant-loop-group l =
    map state_variable_of l.variables.items ++ map erased_state_variable (flat_map state_variables_form (drop l.group-index l.groups))
    ≡ map erased_state_variable (flat_map state_variables_form l.groups)
