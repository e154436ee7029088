use Rattle.std.proofs.Common.{ℕ, ◌<◌, get_or}
use Rattle.pb_game.specs.Games.{successors_of}
use Rattle.pb_strategy.specs.Comparisons.{MeetsRules}
use Rattle.pb_strategy.proofs.position.Position.meets_rules_everywhere.Given as goal

abbrev pub invariant-loop-target : goal.invariant-loop-target
invariant-loop-target l = (k : ℕ) → k < l.target-index → MeetsRules l.self (get_or (successors_of l.self.game.now l.self.number) k 0)
