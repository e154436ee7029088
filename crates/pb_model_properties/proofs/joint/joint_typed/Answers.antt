-- The text is that of what the invariants say together.
use Rattle.std.proofs.Common.{◌∙◌, ap, subst}
use Rattle.pb_text_tree.specs.Form.{spec_form}
use Rattle.pb_model_tree.specs.Form.{FormulaForm, model_form}
use Rattle.pb_model_meaning.specs.Erase.{erase, erased_formula}
use Rattle.pb_model_meaning.specs.Satisfaction.{satisfies}
use Rattle.pb_model_translation.specs.Placed.{placed}
use Rattle.pb_model_typing.specs.Texts.{HasTypedText}
use Rattle.pb_model_invariants.specs.Links.{forms_in}
use Rattle.pb_model_properties.specs.Joint.{joint_property}
use Rattle.pb_model_properties.proofs.OfProperties.{text_of_property}
use Rattle.pb_model_properties.proofs.joint.joint_typed.Goals as goal

pub returns-in-Ok : goal.returns-in-Ok
returns-in-Ok c =
    let model = model_form c.args.solved.now.typed.model in
    let is = c.in_ok-formula.ensures in
    text_of_property model (joint_property model (forms_in c.args.invariants.now)) (spec_form c.in-Ok.text.spec) (c.in-Ok.ensures.text ∙ ap (placed model model.initial.place) is)
    (subst (λ (f : FormulaForm). HasTypedText (erase model) (erased_formula f)) is c.in-Ok.ensures.typed)
    (c.in-Ok.ensures.answer ∙ ap (λ (f : FormulaForm). satisfies (erase model) (erased_formula f)) is)
