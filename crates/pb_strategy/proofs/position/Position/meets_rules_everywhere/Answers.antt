use Rattle.std.proofs.Common.{arith}
use Rattle.pb_strategy.specs.Comparisons.{MeetsRules}
use Rattle.pb_strategy.proofs.Kept.{each_element, edge_within}
use Rattle.pb_game.specs.Games.{successors_of}
use Rattle.pb_strategy.proofs.position.Position.meets_rules_everywhere.Goals as goal

pub meets_rules-requires : goal.meets_rules-requires
meets_rules-requires c =
    edge_within _ _ c.loop-target.target-index c.args.self.now.inside c.successors-target-items.ensures.list (omega arith)

pub returns : goal.returns
returns c = λ _. each_element (successors_of c.args.self.now.game.now c.args.self.now.number) (λ u. MeetsRules c.args.self.now u)
    (λ k h. c.loop-target.invariant k (search (arith, c.successors-target-items.ensures.list)))
