use Rattle.std.proofs.Common.{◌≡◌, ◌++◌, map, drop}
use Rattle.pb_protocol_unfolder_steps.specs.Initial.{indices_behind, indices_of_state}
use Rattle.pb_protocol_unfolder_steps.proofs.initial.state_variables.Given as goal

-- what is still to be added stands behind what is added
abbrev pub invariant-loop-group : goal.invariant-loop-group
invariant-loop-group l =
    map indices_behind l.variables.items ++ indices_of_state (drop l.group-index l.state) ≡ indices_of_state l.state
