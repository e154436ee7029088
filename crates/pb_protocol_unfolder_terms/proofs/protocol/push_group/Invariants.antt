use Rattle.std.proofs.Common.{◌≡◌, ◌++◌, map, drop}
use Rattle.pb_protocol_tree.specs.Form.{state_variable_form}
use Rattle.pb_protocol_meaning.specs.Erase.{erased_state_variable}
use Rattle.pb_protocol_unfolder_terms.specs.Contexts.{state_variable_of}
use Rattle.pb_protocol_unfolder_terms.proofs.protocol.push_group.Given as goal

abbrev pub invariant-loop-variable : goal.invariant-loop-variable
invariant-loop-variable l =
    map state_variable_of l.variables.items ++ map erased_state_variable (map (state_variable_form l.group.sort) (drop l.variable-index l.group.variables.items))
    ≡ map state_variable_of l.initial.variables.items ++ map erased_state_variable (map (state_variable_form l.group.sort) l.group.variables.items)
