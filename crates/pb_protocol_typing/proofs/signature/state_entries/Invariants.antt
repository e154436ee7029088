use Rattle.std.proofs.Common.{◌≡◌, ◌++◌, drop, flat_map}
use Rattle.pb_protocol_tree.specs.Form.{state_variables_form}
use Rattle.pb_protocol_typing.specs.View.{state_forms}
use Rattle.pb_protocol_typing.proofs.signature.state_entries.Given as goal

-- the variables so far, and those of the groups that are left
abbrev pub invariant-loop-group : goal.invariant-loop-group
invariant-loop-group l =
    flat_map state_variables_form l.groups ≡ state_forms l.entries.items ++ flat_map state_variables_form (drop l.group-index l.groups)
