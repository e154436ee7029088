-- What is told of the module is told of the property.
use Rattle.pb_command_models.proofs.Truths.{property_early}
use Rattle.pb_command_models.proofs.outcome.early_of.Goals as goal

pub returns-in-Verified : goal.returns-in-Verified
returns-in-Verified g c =
    property_early c.args.property.now c.in-Verified.verified c.in-Verified.is c.answer_early.result c.answer_early.ensures
