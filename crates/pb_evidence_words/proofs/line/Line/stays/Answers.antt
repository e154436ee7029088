use Rattle.std.proofs.Common.{sym, ap, ◌∙◌}
use Rattle.pb_sorts.specs.Instance.{instance_of}
use Rattle.pb_evidence_words.specs.Callers.{told_by}
use Rattle.pb_evidence_words.specs.Ready.{call_said}
use Rattle.pb_evidence_words.specs.WhyText.{Told, call_between, is_staying}
use Rattle.pb_evidence_words.proofs.Told.{caller-at, staying-said, stays-said}
use Rattle.pb_evidence_words.proofs.line.Line.stays.Goals as goal

pub returns : goal.returns
returns c =
    let t = told_by c.args.self.now in
    let parent = c.args.parent.now in
    let u = told_by parent.line in
    let i = instance_of parent.instance in
    let j = instance_of c.instance-instance.result in
    let o = call_said c.in_ok-call.call in
    let made = caller-at u t parent.line.number _ c.requires.told c.requires.place parent.made in
    c.is_staying.ensures
    ∙ (ap (λ (v : Told). is_staying v.vocabulary o) (sym c.requires.told)
    ∙ (staying-said u i j o c.in_ok-call.ensures
    ∙ (ap (λ (v : Told). is_staying v.vocabulary (call_between v i j)) c.requires.told
    ∙ stays-said t _ c.args.self.now.number i parent.calls.items made j c.instance-instance.ensures.value)))
