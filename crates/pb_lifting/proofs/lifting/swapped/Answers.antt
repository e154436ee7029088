use Rattle.pb_lifting.proofs.Turns.{other_first}
use Rattle.pb_lifting.proofs.lifting.swapped.Goals as goal

pub returns : goal.returns
returns c = other_first c.args.game.now c.args.tables c.opponent.result c.opponent.ensures c.requires
