use Rattle.std.proofs.Common.{◌≡◌, ◌++◌, drop}
use Rattle.pb_protocol_groups.specs.Names.{variables_of_group}
use Rattle.pb_protocol_groups.specs.Variables.{variables_of_state}
use Rattle.pb_protocol_groups.proofs.Rows.{variables_by}
use Rattle.pb_protocol_groups.proofs.state_variables.push_group.Given as goal

abbrev pub invariant-loop-name : goal.invariant-loop-name
invariant-loop-name l =
    variables_of_state l.initial.variables.items ++ variables_of_group l.group ≡ variables_of_state l.variables.items ++ variables_by l.group.sort (drop l.name-index l.name-items)
