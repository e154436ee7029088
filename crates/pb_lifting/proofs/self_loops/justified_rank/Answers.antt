use Rattle.std.proofs.Common.{arith}
use Rattle.pb_lifting.proofs.Measures.{within_top}
use Rattle.pb_lifting.proofs.self_loops.justified_rank.Goals as goal

pub returns-then-is_lost_loop-clause-least : goal.returns-then-is_lost_loop-clause-least
returns-then-is_lost_loop-clause-least c =
    let low = within_top c.args.at.now.ranking.game.now c.args.at.now.ranking.player c.args.at.now.number c.args.least c.requires in let top = c.top.ensures in omega arith
