use Rattle.std.proofs.Common.{◌≡◌, ℕ, ◌<◌, get_or}
use Rattle.pb_game.specs.Games.{successors_of}
use Rattle.pb_game.specs.Solutions.{winner_of}
use Rattle.pb_game.specs.Certificates.{IsKept}
use Rattle.pb_strategy.proofs.position.Position.leaves_region.Given as goal

abbrev pub invariant-loop-target : goal.invariant-loop-target
invariant-loop-target l = (k : ℕ) → k < l.target-index → let u = get_or (successors_of l.self.game.now l.self.number) k 0 in
    IsKept l.self.game.now l.self.solution.now l.self.number u → winner_of l.self.solution.now u ≡ winner_of l.self.solution.now l.self.number
