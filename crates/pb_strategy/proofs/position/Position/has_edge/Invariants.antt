use Rattle.std.proofs.Common.{◌≢◌, ℕ, ◌<◌, get_or}
use Rattle.pb_game.specs.Games.{successors_of}
use Rattle.pb_strategy.proofs.position.Position.has_edge.Given as goal

abbrev pub invariant-loop-target : goal.invariant-loop-target
invariant-loop-target l = (k : ℕ) → k < l.target-index → get_or (successors_of l.self.game.now l.self.number) k 0 ≢ l.u
