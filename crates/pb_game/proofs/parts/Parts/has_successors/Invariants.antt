use Rattle.std.proofs.Common.{ℕ, ◌<◌}
use Rattle.std.specs.List.Sorted.{IsStrictlyIncreasing}
use Rattle.pb_game.specs.Adjacency.{row}
use Rattle.pb_game.proofs.parts.Parts.has_successors.Given as goal

abbrev pub invariant-loop-v : goal.invariant-loop-v
invariant-loop-v l = (w : ℕ) → w < l.v → IsStrictlyIncreasing (row l.self.places.items l.self.successors.items w)
