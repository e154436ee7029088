use Rattle.std.proofs.Common.{◌≡◌, ◌++◌, map, drop}
use Rattle.pb_protocol_unfolder_steps.specs.Initial.{indices_behind, indices_said, indices_of_group}
use Rattle.pb_protocol_unfolder_steps.proofs.initial.push_variables.Given as goal

-- what is still to be added stands behind what is added
abbrev pub invariant-loop-variable : goal.invariant-loop-variable
invariant-loop-variable l =
    map indices_behind l.variables.items ++ map indices_said (drop l.variable-index l.group.variables.items) ≡ map indices_behind l.initial.variables.items ++ indices_of_group l.group
