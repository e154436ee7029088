use Rattle.std.proofs.Common.{inr, rules}
use Rattle.std.proofs.lemmas.Result.{on_ok_weaker}
use Rattle.pb_base.specs.OrMemory.{IfFault}
use Rattle.pb_base.proofs.Faults.{if_refused}
use Rattle.pb_model_tree.specs.Form.{model_form}
use Rattle.pb_model_typing.specs.Texts.{IsTypedModel, IsModelFault}
use Rattle.pb_model_typing.proofs.Decided.{rule-broken, rule-fault}
use Rattle.pb_model_typing.proofs.typed.check_parts.Goals as goal

pub returns-in_err-check_rules-clause-fails : goal.returns-in_err-check_rules-clause-fails
returns-in_err-check_rules-clause-fails c =
    let e = c.in_err-check_rules.field-0.0 in
    let h : IfFault e (IsModelFault (model_form c.args.model.now)) = rule-fault (model_form c.args.model.now) e c.in_err-check_rules.ensures in
    search rules

pub returns-in_err-check_rules-clause-ill_typed : goal.returns-in_err-check_rules-clause-ill_typed
returns-in_err-check_rules-clause-ill_typed c =
    let e = c.in_err-check_rules.field-0.0 in
    let h : IfFault e (λ _. ¬ IsTypedModel (model_form c.args.model.now)) = rule-broken (model_form c.args.model.now) e c.in_err-check_rules.ensures in
    search rules

pub returns-clause-accepted : goal.returns-clause-accepted
returns-clause-accepted c = on_ok_weaker c.check_steps_text.result (λ typed. record { rules = c.in_ok-check_rules.ensures; steps = typed }) c.check_steps_text.ensures.accepted

pub returns-clause-fails : goal.returns-clause-fails
returns-clause-fails c = if_refused c.check_steps_text.result (λ fault h. inr h) c.check_steps_text.ensures.fails

pub returns-clause-ill_typed : goal.returns-clause-ill_typed
returns-clause-ill_typed c = if_refused c.check_steps_text.result (λ fault ill typed. ill typed.steps) c.check_steps_text.ensures.ill_typed
