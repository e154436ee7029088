use Rattle.std.proofs.Common.{◌≡◌, ◌++◌, drop, map}
use Rattle.pb_protocol_tree.specs.Form.{state_variable_form, state_variables_form}
use Rattle.pb_protocol_typing.specs.Faults.{state_names}
use Rattle.pb_protocol_typing.specs.View.{names_in}
use Rattle.pb_protocol_typing.proofs.names.push_state.Given as goal

-- the names so far, and those that are left
abbrev pub invariant-loop-variable : goal.invariant-loop-variable
invariant-loop-variable l =
    names_in l.initial.names.items ++ state_names (state_variables_form l.group)
    ≡ names_in l.names.items ++ state_names (map (state_variable_form l.group.sort) (drop l.variable-index l.variable-items))
