use Rattle.std.proofs.Common.{◌≡◌, ◌++◌, ℤ, Some, None, List, codes, string_bytes, ap, ◌∙◌, subst}
use Rattle.pb_sorts.specs.Instance.{instance_of}
use Rattle.pb_model_words.specs.Words.{changes_text}
use Rattle.pb_typing_calls.specs.MadeCallView.{call_view}
use Rattle.pb_evidence_words.specs.Callers.{told_by}
use Rattle.pb_evidence_words.specs.Ready.{call_said}
use Rattle.pb_evidence_words.specs.WhyText.{call_between, move_between, move_by}
use Rattle.pb_evidence_words.proofs.Pushed.{and_then, said_as}
use Rattle.pb_evidence_words.proofs.Told.{move-by-said}
use Rattle.pb_evidence_words.proofs.caller.Caller.push_move_to.Goals as goal

pub returns-in-Some : goal.returns-in-Some
returns-in-Some c =
    let self = c.args.self.now in
    let t = told_by self.line in
    let i = instance_of self.instance in
    let j = instance_of c.args.called.now in
    let call = call_view c.in-Some.call.now in
    said_as c.push_call.result _ _ (move_by t.vocabulary i j (Some call)) (move_between t i j)
    (move-by-said t i j (Some call) (subst (λ o. ∥ call_said o ≡ call_between t i j ∥₁) c.in-Some.is c.in_ok-call.ensures)) c.push_call.ensures

pub returns-in_ok-push_str-in-None : goal.returns-in_ok-push_str-in-None
returns-in_ok-push_str-in-None c =
    let self = c.args.self.now in
    let t = told_by self.line in
    let i = instance_of self.instance in
    let j = instance_of c.args.called.now in
    let s0 = string_bytes c.args.text.now in
    let s1 = string_bytes c.push_str.new.self in
    let s2 = string_bytes c.push_changes.new.text in
    let r = c.push_changes.result in
    let changes = changes_text t.vocabulary i.values j.values in
    let same = ap (λ (vs : List ℤ). changes_text t.vocabulary vs c.as_slice-after.result.now) c.as_slice-before.ensures
    ∙ ap (λ (vs : List ℤ). changes_text t.vocabulary i.values vs) c.as_slice-after.ensures in
    said_as r s0 s2 (codes "by no step" ++ changes) (move_between t i j)
    (move-by-said t i j None (subst (λ o. ∥ call_said o ≡ call_between t i j ∥₁) c.in-None.is c.in_ok-call.ensures))
    (and_then r s0 s1 s2 (codes "by no step") changes c.in_ok-push_str-in-None.ensures.bytes (said_as r s1 s2 _ changes same c.push_changes.ensures))
