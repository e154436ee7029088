use Rattle.std.proofs.Common.{◌≡◌, ◌<◌, get_or, arith}
use Rattle.pb_game.specs.Games.{vertex_count}
use Rattle.pb_game.specs.Solutions.{winner_of}
use Rattle.pb_strategy.proofs.Kept.{each_kept, edge_within}
use Rattle.pb_strategy.proofs.position.Position.leaves_region.Goals as goal

pub winner-requires : goal.winner-requires
winner-requires c =
    let h : get_or c.successors-target-items.result.now c.loop-target.target-index 0 < vertex_count c.args.self.now.game.now =
    edge_within _ _ c.loop-target.target-index c.args.self.now.inside c.successors-target-items.ensures.list (omega arith)
    in grind (arith, c.args.self.now.lengths.winner)

pub returns : goal.returns
returns c =
    let p = c.args.self.now in
    each_kept p.game.now p.solution.now p.number (λ u. winner_of p.solution.now u ≡ winner_of p.solution.now p.number)
    (λ k h. c.loop-target.invariant k (search (arith, c.successors-target-items.ensures.list)))
