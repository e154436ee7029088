-- What the text of the step at the place says, and why there is none.
use Rattle.std.proofs.Common.{◌≡◌, Some}
use Rattle.std.specs.List.{slice_get}
use Rattle.pb_text_tree.specs.Form.{spec_form}
use Rattle.pb_model_tree.specs.Form.{StepForm, model_form}
use Rattle.pb_model_properties.specs.Reached.{reached_property}
use Rattle.pb_model_properties.proofs.OfProperties.{refused_text, text_of_property}
use Rattle.pb_model_properties.proofs.reached.reached_text_at.Goals as goal

pub returns-in-Ok-clause-text : goal.returns-in-Ok-clause-text
returns-in-Ok-clause-text c = λ a stands.
    let model = model_form c.args.solved.now.typed.model in
    text_of_property model (reached_property model a) (spec_form c.in-Ok.text.spec) (c.in-Ok.ensures.text a stands) (c.in-Ok.ensures.typed a stands) (c.in-Ok.ensures.answer a stands)

pub returns-in-Err-clause-refused : goal.returns-in-Err-clause-refused
returns-in-Err-clause-refused c =
    let solved = c.args.solved.now in
    let model = model_form solved.typed.model in
    let Stands : StepForm → Type 0 = λ a. slice_get model.steps c.args.step ≡ Some a in
    refused_text solved Stands (reached_property model) c.in-Err.error c.told_error.result c.told_error.ensures c.in-Err.ensures.fails c.in-Err.ensures.ill_typed
