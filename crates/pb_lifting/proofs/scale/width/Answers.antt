use Rattle.std.proofs.Common.{arith}
use Rattle.pb_game.proofs.Laws.{is_game}
use Rattle.pb_lifting.proofs.scale.width.Goals as goal

pub returns-clause-small : goal.returns-clause-small
returns-clause-small c = omega (arith, (is_game c.args.game.now).few_priorities, c.greatest_priority.ensures)
