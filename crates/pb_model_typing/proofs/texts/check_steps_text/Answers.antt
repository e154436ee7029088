use Rattle.std.proofs.Common.{rules, sym, subst, ap}
use Rattle.pb_base.specs.OrMemory.{IfFault}
use Rattle.pb_base.proofs.Faults.{if_fault}
use Rattle.pb_model_tree.specs.Form.{FormulaForm, model_form}
use Rattle.pb_model_meaning.specs.Syntax.{Formula}
use Rattle.pb_model_meaning.specs.Erase.{erased_formula, model_of}
use Rattle.pb_model_typing.specs.Texts.{HasTypedText, IsFaultFromText, every_step, placed_steps}
use Rattle.pb_model_typing.proofs.texts.check_steps_text.Goals as goal

pub returns-clause-accepted : goal.returns-clause-accepted
returns-clause-accepted c = subst (λ (f : Formula). HasTypedText (model_of c.args.model.now) f) (ap erased_formula c.in_ok-steps.ensures) c.in_ok-typed_text.ensures.typed

pub returns-in_err-typed_text-clause-fails : goal.returns-in_err-typed_text-clause-fails
returns-in_err-typed_text-clause-fails c =
    let m = model_form c.args.model.now in
    let e = c.in_err-typed_text.field-0.0 in
    let h : IfFault e (IsFaultFromText m (placed_steps m)) =
    subst (λ (f : FormulaForm). IfFault e (IsFaultFromText m (c.args.model.now.initial.place, f))) c.in_ok-steps.ensures c.in_err-typed_text.ensures.fails in
    search rules

pub returns-in_err-typed_text-clause-ill_typed : goal.returns-in_err-typed_text-clause-ill_typed
returns-in_err-typed_text-clause-ill_typed c =
    let m = model_of c.args.model.now in
    let e = c.in_err-typed_text.field-0.0 in
    let h : IfFault e (λ _. ¬ HasTypedText m every_step) =
    if_fault e (λ _ ill typed. ill (subst (λ (f : Formula). HasTypedText m f) (sym (ap erased_formula c.in_ok-steps.ensures)) typed)) c.in_err-typed_text.ensures.ill_typed in
    search rules
