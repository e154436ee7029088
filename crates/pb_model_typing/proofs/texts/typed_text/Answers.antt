use Rattle.std.proofs.Common.{◌∙◌, ap, subst}
use Rattle.pb_text_tree.specs.declared.spec.Spec.{Spec as Text}
use Rattle.pb_text_tree.specs.Form.{spec_form}
use Rattle.pb_text_meaning.specs.Syntax.{Spec}
use Rattle.pb_typing_rules.specs.WellTyped.{IsWellTyped}
use Rattle.pb_model_tree.specs.Form.{formula_form, model_form}
use Rattle.pb_model_typing.proofs.Decided.{text-broken, text-fault, text-said}
use Rattle.pb_model_typing.proofs.texts.typed_text.Goals as goal

pub returns-in-Ok-clause-text : goal.returns-in-Ok-clause-text
returns-in-Ok-clause-text c = ap (λ (s : Text). spec_form s) c.in-Ok.ensures.kept ∙ c.in_ok-text.ensures

pub returns-in-Ok-clause-typed : goal.returns-in-Ok-clause-typed
returns-in-Ok-clause-typed c =
    let said = text-said (model_form c.args.model.now) c.args.place (formula_form c.args.formula.now) (spec_form c.in_ok-text.text) c.in_ok-text.ensures in
    subst (λ (s : Spec). IsWellTyped s) said c.in-Ok.ensures.accepted.typed

pub returns-in-Err-clause-fails : goal.returns-in-Err-clause-fails
returns-in-Err-clause-fails c =
    text-fault (model_form c.args.model.now) (c.args.place, formula_form c.args.formula.now) (spec_form c.in_ok-text.text) c.in-Err.error c.error_in_model.result c.error_in_model.ensures
    c.in_ok-text.ensures c.in-Err.ensures.fails

pub returns-in-Err-clause-ill_typed : goal.returns-in-Err-clause-ill_typed
returns-in-Err-clause-ill_typed c =
    text-broken (model_form c.args.model.now) c.args.place (formula_form c.args.formula.now) (spec_form c.in_ok-text.text) c.in-Err.error c.error_in_model.result c.error_in_model.ensures
    c.in_ok-text.ensures c.in-Err.ensures.ill_typed
