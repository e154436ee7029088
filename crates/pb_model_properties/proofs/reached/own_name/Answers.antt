use Rattle.std.proofs.Common.{◌∙◌, arith}
use Rattle.std.proofs.lemmas.Grind.{common_steps}
use Rattle.pb_model_properties.proofs.StepNames.{own-name-at}
use Rattle.pb_model_properties.proofs.reached.own_name.Goals as goal

pub returns-in-Some : goal.returns-in-Some
returns-in-Some c = c.as_str.ensures.value ∙ own-name-at c.args.steps.now c.args.step c.in-Some.step.now (grind (arith, common_steps)) (grind (arith, common_steps))
