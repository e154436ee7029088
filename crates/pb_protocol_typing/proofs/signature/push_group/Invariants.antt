use Rattle.std.proofs.Common.{◌≡◌, ◌++◌, drop, map}
use Rattle.pb_protocol_tree.specs.Form.{state_variable_form, state_variables_form}
use Rattle.pb_protocol_typing.specs.View.{state_forms}
use Rattle.pb_protocol_typing.proofs.signature.push_group.Given as goal

-- the variables so far, and those that are left
abbrev pub invariant-loop-variable : goal.invariant-loop-variable
invariant-loop-variable l =
    state_forms l.initial.entries.items ++ state_variables_form l.group
    ≡ state_forms l.entries.items ++ map (state_variable_form l.group.sort) (drop l.variable-index l.variable-items)
