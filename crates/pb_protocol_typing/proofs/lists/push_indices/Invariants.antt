use Rattle.std.proofs.Common.{◌≡◌, ◌++◌, drop, map}
use Rattle.pb_protocol_tree.specs.Form.{state_variable_form, state_variables_form}
use Rattle.pb_protocol_typing.specs.Lists.{index_lists}
use Rattle.pb_protocol_typing.specs.View.{list_forms}
use Rattle.pb_protocol_typing.proofs.lists.push_indices.Given as goal

-- the lists so far, and those that are left
abbrev pub invariant-loop-variable : goal.invariant-loop-variable
invariant-loop-variable l =
    list_forms l.initial.lists.items ++ index_lists (state_variables_form l.group)
    ≡ list_forms l.lists.items ++ index_lists (map (state_variable_form l.group.sort) (drop l.variable-index l.variable-items))
