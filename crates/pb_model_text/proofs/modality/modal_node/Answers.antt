use Rattle.std.specs.Prelude.{box_value}
use Rattle.std.proofs.Common.{ap, ◌∙◌}
use Rattle.std.proofs.lemmas.Result.{IfOk-at_ok}
use Rattle.pb_protocol_tree.specs.Form.{FormulaForm, formula_form, step_set_form}
use Rattle.pb_model_text.proofs.modality.modal_node.Goals as goal

pub returns : goal.returns
returns c =
    ap (λ v. FormulaForm.modal c.args.modality c.args.place (step_set_form v) (formula_form (box_value c.in_ok-steps.operand))) c.in_ok-steps.ensures.0
    ∙ ap (λ v. FormulaForm.modal c.args.modality c.args.place (step_set_form c.args.steps) (formula_form v)) (IfOk-at_ok _ c.in_ok-steps.ensures.1 c.new.ensures.ok)
