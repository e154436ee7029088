use Rattle.std.proofs.Common.{arith}
use Rattle.pb_strategy.specs.Comparisons.{DecreasesAlong}
use Rattle.pb_strategy.proofs.Kept.{each_kept, edge_within}
use Rattle.pb_strategy.proofs.position.Position.stays.Goals as goal

pub compare-requires : goal.compare-requires
compare-requires c =
    edge_within _ _ c.loop-target.target-index c.args.self.now.inside c.successors-target-items.ensures.list (omega arith)

pub returns : goal.returns
returns c =
    each_kept c.args.self.now.game.now c.args.self.now.solution.now c.args.self.now.number
    (DecreasesAlong c.args.self.now)
    (λ k h. c.loop-target.invariant k (search (arith, c.successors-target-items.ensures.list)))
