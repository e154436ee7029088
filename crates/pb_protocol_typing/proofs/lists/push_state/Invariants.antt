use Rattle.std.proofs.Common.{◌≡◌, ◌++◌, drop, flat_map}
use Rattle.pb_protocol_tree.specs.Form.{state_variables_form}
use Rattle.pb_protocol_typing.specs.Lists.{index_lists}
use Rattle.pb_protocol_typing.specs.View.{list_forms}
use Rattle.pb_protocol_typing.proofs.lists.push_state.Given as goal

-- the lists so far, and those of the groups that are left
abbrev pub invariant-loop-group : goal.invariant-loop-group
invariant-loop-group l =
    list_forms l.fn.lists.items ++ index_lists (flat_map state_variables_form l.groups)
    ≡ list_forms l.lists.items ++ index_lists (flat_map state_variables_form (drop l.group-index l.groups))
