-- The outcome of a module is that of the property whose text's it is.
use Rattle.pb_command_models.proofs.Excesses.{large_game, of_fault}
use Rattle.pb_command_models.proofs.PropertyVerdicts.{property_verdict}
use Rattle.pb_command_models.proofs.outcome.answered.Goals as goal

pub returns-in-Ok : goal.returns-in-Ok
returns-in-Ok g c model p text =
    property_verdict model p text.0 text.1 c.args.verified.now text.2 c.in-Ok.answer c.in-Ok.ensures

pub returns-in-Err-Refused : goal.returns-in-Err-Refused
returns-in-Err-Refused g c model p text =
    large_game model p text.0 text.1 c.args.verified.now text.2 (of_fault c.in-Err-Refused.field-0 c.in-Err-Refused.field-0-is c.in-Err-Refused.ensures)
