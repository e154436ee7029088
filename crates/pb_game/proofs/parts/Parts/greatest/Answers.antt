use Rattle.std.proofs.Common.{arith}
use Rattle.pb_game.proofs.Greatest.{greatest_of-take}
use Rattle.pb_game.proofs.parts.Parts.greatest.Goals as goal

pub loop-priority-preserved : goal.loop-priority-preserved
loop-priority-preserved c = grind (arith, greatest_of-take c.args.self.now.priorities.items c.loop-priority.priority-index)
