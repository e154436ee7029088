use Rattle.pb_strategy.proofs.Ranges.{whole_found}
use Rattle.pb_strategy.proofs.first_flaw.flaw_of.Goals as goal

pub returns-in-Ok : goal.returns-in-Ok
returns-in-Ok c = whole_found c.args.game.now c.args.solution.now c.in-Ok.range c.in-Ok.ensures.range c.first_flaw.result c.first_flaw.ensures
