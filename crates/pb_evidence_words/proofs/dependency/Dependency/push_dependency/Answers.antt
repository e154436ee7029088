use Rattle.std.proofs.Common.{◌≡◌, ◌++◌, codes, string_bytes, ap, ◌∙◌}
use Rattle.pb_model_words.specs.View.{vocabulary_of}
use Rattle.pb_sorts.specs.Instance.{Instance, instance_of}
use Rattle.pb_evidence_words.specs.Ready.{told_of}
use Rattle.pb_evidence_words.specs.InstanceLines.{call_mark, instance_text}
use Rattle.pb_evidence_words.specs.WhyText.{call_between, shown_instance, line_instance}
use Rattle.pb_evidence_words.proofs.Told.{mark-by-said, mark-said}
use Rattle.pb_evidence_words.proofs.Listed.{listed-below}
use Rattle.pb_evidence_words.proofs.Pushed.{and_then, said_as}
use Rattle.pb_evidence_words.proofs.dependency.Dependency.push_dependency.Goals as goal

pub instance-called-requires : goal.instance-called-requires
instance-called-requires c = listed-below c.args.self.now.caller.now.line.telling.now c.args.self.now.number c.args.self.now.listed

pub returns : goal.returns
returns c =
    let s = c.args.self.now.caller.now.line.telling.now.shown.now in
    let t = told_of s in
    let m = vocabulary_of s.vocabulary.now in
    let i = line_instance t c.args.self.now.caller.now.line.number in
    let j = shown_instance t c.args.self.now.number in
    let found = instance_of c.instance-called.result in
    let is : found ≡ j = c.instance-called.ensures.value in
    let r = c.push_call_mark.result in
    let s0 = string_bytes c.args.text.now in
    let s1 = string_bytes c.push_str.new.self in
    let s2 = string_bytes c.push_instance.new.text in
    let s3 = string_bytes c.push_call_mark.new.text in
    let name = instance_text t j in
    let mark = call_mark m (call_between t i j) in
    let named : s2 ≡ s1 ++ name = c.in_ok-push_instance.ensures ∙ ap (λ (x : Instance). s1 ++ instance_text t x) is in
    let caller = c.args.self.now.caller.now in
    let marked = mark-by-said t (instance_of caller.instance) found _ c.in_ok-call.ensures ∙ mark-said t caller.line.number _ _ caller.made found j is in
    and_then r s0 s1 s3 (codes " ") (name ++ mark) c.in_ok-push_str.ensures.bytes
    (and_then r s1 s2 s3 name mark named
    (said_as r s2 s3 _ mark marked c.push_call_mark.ensures))
