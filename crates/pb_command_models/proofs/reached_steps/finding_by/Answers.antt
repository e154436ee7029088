-- What is found of the step, by what becomes of its text.
use Rattle.pb_command_models.proofs.StepFindings.{step_answered, step_large, step_shown}
use Rattle.pb_command_models.proofs.reached_steps.finding_by.Goals as goal

pub returns-in-Some : goal.returns-in-Some
returns-in-Some g c model step made =
    step_shown model step c.args.compiled.now made c.in_ok-early.early c.in-Some.truth c.by_truth.result c.in-Some.is c.in_ok-early.ensures c.by_truth.ensures

pub returns-in-TooLarge : goal.returns-in-TooLarge
returns-in-TooLarge g c model step made =
    step_large model step c.args.compiled.now made c.in_ok-outcome.outcome c.in_ok-outcome.ensures c.in-TooLarge.excess c.in-TooLarge.is

pub returns-in-Answered : goal.returns-in-Answered
returns-in-Answered g c model step made =
    step_answered model step c.args.compiled.now made c.in_ok-outcome.outcome c.in_ok-outcome.ensures c.in-Answered.answer c.by_truth-in-Answered.result c.in-Answered.is c.by_truth-in-Answered.ensures
