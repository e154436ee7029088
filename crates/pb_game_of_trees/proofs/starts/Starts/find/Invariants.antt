use Rattle.std.proofs.Common.{◌≤◌, ◌-◌, length}
use Rattle.pb_game_of_trees.proofs.starts.Starts.find.Given as goal

abbrev pub invariant-halves : goal.invariant-halves
invariant-halves l = l.to ≤ length l.numbers

abbrev pub decreases-halves : goal.decreases-halves
decreases-halves l = l.to - l.from
