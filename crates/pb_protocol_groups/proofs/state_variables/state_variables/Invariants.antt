use Rattle.std.proofs.Common.{◌≡◌, ◌++◌, drop}
use Rattle.pb_protocol_packer.specs.View.{variables_in}
use Rattle.pb_protocol_groups.specs.Variables.{variables_of_state}
use Rattle.pb_protocol_groups.proofs.state_variables.state_variables.Given as goal

abbrev pub invariant-loop-group : goal.invariant-loop-group
invariant-loop-group l = variables_in l.groups ≡ variables_of_state l.variables.items ++ variables_in (drop l.group-index l.groups)
