use Rattle.std.proofs.Common.{◌∙◌, ◌<◌, length, arith}
use Rattle.std.proofs.lemmas.Grind.{common_steps}
use Rattle.pb_model_properties.proofs.StepNames.{called-name-at, no-name-at, no-step-at}
use Rattle.pb_model_properties.proofs.reached.called_name.Goals as goal

pub returns-then-step-steps : goal.returns-then-step-steps
returns-then-step-steps c = no-step-at c.args.names.now c.args.steps.now c.args.step c.if-step-steps.true

pub returns-in-None : goal.returns-in-None
returns-in-None c = no-name-at c.args.names.now c.args.steps.now c.args.step (grind (arith, common_steps))

pub returns-in-Some : goal.returns-in-Some
returns-in-Some c =
    let there : c.args.step < length c.args.steps.now = omega (arith, c.if-step-steps.false) in
    c.as_str.ensures.value ∙ called-name-at c.args.names.now c.args.steps.now c.args.step c.in-Some.name.now there (grind (arith, common_steps)) (grind (arith, common_steps))
