use Rattle.pb_exploration_reached.specs.Nearby.{IsNearby}
use Rattle.pb_command_solver.proofs.part.first_part.Given as goal

abbrev pub invariant-loop-most : goal.invariant-loop-most
invariant-loop-most g l = IsNearby l.verified l.nearby

abbrev pub invariant-loop-truth : goal.invariant-loop-truth
invariant-loop-truth g l = IsNearby l.verified l.nearby
