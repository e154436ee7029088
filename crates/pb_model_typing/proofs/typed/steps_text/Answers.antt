use Rattle.std.proofs.Common.{◌≡◌, ◌∙◌, ap, subst}
use Rattle.pb_base.proofs.Faults.{if_fault}
use Rattle.pb_text_tree.specs.declared.spec.Spec.{Spec}
use Rattle.pb_text_tree.specs.Form.{spec_form}
use Rattle.pb_model_tree.specs.Form.{FormulaForm, model_form}
use Rattle.pb_model_translation.specs.Placed.{placed}
use Rattle.pb_model_typing.proofs.Decided.{steps-typed}
use Rattle.pb_model_typing.proofs.typed.steps_text.Goals as goal

pub only_memory-requires : goal.only_memory-requires
only_memory-requires c =
    let m = model_form c.args.typed.now.model in
    let said = subst (λ (f : FormulaForm). spec_form c.in_ok-text.text ≡ placed m m.initial.place f) c.in_ok-formula.ensures c.in_ok-text.ensures in
    if_fault c.in-Err.error (λ _. steps-typed m (spec_form c.in_ok-text.text) c.args.typed.now.typed said) c.in-Err.ensures.ill_typed

pub returns-in-Ok : goal.returns-in-Ok
returns-in-Ok c =
    let m = model_form c.args.typed.now.model in
    ap (λ (s : Spec). spec_form s) c.in-Ok.ensures.kept
    ∙ subst (λ (f : FormulaForm). spec_form c.in_ok-text.text ≡ placed m m.initial.place f) c.in_ok-formula.ensures c.in_ok-text.ensures
