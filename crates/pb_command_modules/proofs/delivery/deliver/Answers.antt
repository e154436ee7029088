use Rattle.std.proofs.Common.{refl}
use Rattle.pb_command_modules.proofs.delivery.deliver.Goals as goal

pub returns-in-Ok-clause-text : goal.returns-in-Ok-clause-text
returns-in-Ok-clause-text g c = ((c.args.text.now, refl, c.in-Ok.ensures.all), c.in-Ok.ensures.ok_failed)

pub returns-in-Err-clause-text : goal.returns-in-Err-clause-text
returns-in-Err-clause-text g c = ((c.args.text.now, refl, c.in-Err.ensures.prefix), c.in-Err.ensures.err_failed)
