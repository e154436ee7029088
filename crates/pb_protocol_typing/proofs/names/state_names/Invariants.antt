use Rattle.std.proofs.Common.{◌≡◌, ◌++◌, drop, flat_map}
use Rattle.pb_protocol_tree.specs.Form.{state_variables_form}
use Rattle.pb_protocol_typing.specs.Faults.{state_names}
use Rattle.pb_protocol_typing.specs.View.{names_in}
use Rattle.pb_protocol_typing.proofs.names.state_names.Given as goal

-- the names so far, and those of the groups that are left
abbrev pub invariant-loop-group : goal.invariant-loop-group
invariant-loop-group l =
    state_names (flat_map state_variables_form l.groups) ≡ names_in l.names.items ++ state_names (flat_map state_variables_form (drop l.group-index l.groups))
