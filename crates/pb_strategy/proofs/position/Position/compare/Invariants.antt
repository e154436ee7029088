use Rattle.std.proofs.Common.{◌≡◌, ◌≢◌, ℕ, ◌<◌, ◌%◌}
use Rattle.pb_fixpoint_trees.specs.Players.{parity_of}
use Rattle.pb_game.specs.Games.{priority_count}
use Rattle.pb_game.specs.Solutions.{winner_of, count_of}
use Rattle.pb_strategy.proofs.position.Position.compare.Given as goal

abbrev pub invariant-loop-place : goal.invariant-loop-place
invariant-loop-place l = record {
  within : l.place < priority_count l.self.game.now;
  same : (q : ℕ) → l.place < q → q < priority_count l.self.game.now → q % 2 ≢ parity_of (winner_of l.self.solution.now l.self.number) →
      count_of l.self.game.now l.self.solution.now l.u q ≡ count_of l.self.game.now l.self.solution.now l.self.number q;
}
