use Rattle.std.proofs.Common.{◌≡◌, inl, inr, subst}
use Rattle.std.specs.Prelude.{Some}
use Rattle.std.proofs.lemmas.Result.{IfOk-weaker}
use Rattle.pb_base.proofs.Faults.{if_refused}
use Rattle.pb_text_tree.specs.Form.{term_form}
use Rattle.pb_protocol_tree.specs.Form.{ProtocolForm, protocol_form}
use Rattle.pb_protocol_typing.specs.Faults.{protocol_faults}
use Rattle.pb_protocol_constants.specs.Faults.{IsBoundFault, IsTypingFaultIn, IsValueFault}
use Rattle.pb_protocol_constants.specs.Rules.{with_bound}
use Rattle.pb_protocol_constants.specs.Settled.{number_in, unfolded_value}
use Rattle.pb_protocol_constants.proofs.Refusals.{handed-on}
use Rattle.pb_protocol_constants.proofs.Values.{has-number, value-is}
use Rattle.pb_protocol_constants.proofs.bound.bound_value.Goals as goal

pub returns-clause-value : goal.returns-clause-value
returns-clause-value c = λ none.
    let x = term_form c.args.bound.now.term in
    IfOk-weaker c.value_of.result _ _
    (λ v e. value-is (protocol_form c.args.constants.now) none x v (subst (λ (m : ProtocolForm). number_in (unfolded_value m x) ≡ Some v) c.in_ok-check_bound.ensures.kept e))
    c.value_of.ensures.value

pub returns-clause-bound : goal.returns-clause-bound
returns-clause-bound c = λ none.
    let x = term_form c.args.bound.now.term in
    IfOk-weaker c.value_of.result _ _
    (λ v e. record {
      rules = c.in_ok-check_bound.ensures.rules;
      number = has-number (protocol_form c.args.constants.now) none x v (subst (λ (m : ProtocolForm). number_in (unfolded_value m x) ≡ Some v) c.in_ok-check_bound.ensures.kept e);
    })
    c.value_of.ensures.value

pub returns-clause-refused : goal.returns-clause-refused
returns-clause-refused c =
    let x = term_form c.args.bound.now.term in
    let p = c.args.bound.now.place in
    if_refused c.value_of.result (λ f h. inr (subst (λ (m : ProtocolForm). IsValueFault m p x f) c.in_ok-check_bound.ensures.kept h)) c.value_of.ensures.refused

pub returns-in_err-check_bound-clause-refused : goal.returns-in_err-check_bound-clause-refused
returns-in_err-check_bound-clause-refused c =
    let m = protocol_form c.args.constants.now in
    let x = term_form c.args.bound.now.term in
    let p = c.args.bound.now.place in
    handed-on (IsTypingFaultIn (protocol_faults (with_bound m p x))) (IsBoundFault m p x) (λ f h. inl h)
    c.in_err-check_bound.field-0.0 c.from_residual.result c.in_err-check_bound.ensures.rules c.from_residual.ensures.1
