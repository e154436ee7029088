-- The text of the step that stands at the place.
use Rattle.std.proofs.Common.{◌<◌, length, arith}
use Rattle.std.proofs.lemmas.List.{length-map}
use Rattle.pb_model_tree.specs.Form.{model_form, step_form}
use Rattle.pb_command_models.proofs.StepFindings.{large_step, untyped_step}
use Rattle.pb_command_models.proofs.reached_steps.step_text.Goals as goal

pub returns-in-Ok : goal.returns-in-Ok
returns-in-Ok c = record {
  text = λ a stands. c.in-Ok.ensures.text a stands;
  refused = tt;
}

pub returns-in-Err : goal.returns-in-Err
returns-in-Err c = record {
  text = large_step c.args.solved.now c.args.step c.in-Err.error c.untyped.result c.untyped.ensures.large c.in-Err.ensures.refused;
  refused =
      let solved = c.args.solved.now in
      let below : c.args.step < length (model_form solved.typed.model).steps = let long = length-map solved.typed.model.steps.items step_form in omega (arith, c.requires, long) in
      untyped_step solved c.args.step c.in-Err.error c.untyped.result below c.untyped.ensures.refused c.in-Err.ensures.refused;
}
