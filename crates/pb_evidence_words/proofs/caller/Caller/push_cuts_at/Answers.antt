use Rattle.std.proofs.Common.{string_bytes, flat_map, sym, ◌∙◌}
use Rattle.pb_sorts.specs.Instance.{instance_of}
use Rattle.pb_typing_calls.specs.MadeCallView.{call_views}
use Rattle.pb_evidence_words.specs.Callers.{told_by}
use Rattle.pb_evidence_words.specs.WhyText.{cut_text, cuts_text}
use Rattle.pb_evidence_words.proofs.Pushed.{said_as}
use Rattle.pb_evidence_words.proofs.Told.{cuts-said}
use Rattle.pb_evidence_words.proofs.caller.Caller.push_cuts_at.Goals as goal

pub returns-then-is_cut : goal.returns-then-is_cut
returns-then-is_cut c =
    let self = c.args.self.now in
    let t = told_by self.line in
    said_as c.push_cuts.result (string_bytes c.args.text.now) (string_bytes c.push_cuts.new.text)
    (flat_map (cut_text t (instance_of self.instance)) (call_views self.calls.items)) (cuts_text t self.line.number)
    (cuts-said t self.line.number _ _ self.made (sym c.is_cut.ensures ∙ c.if-is_cut.true)) c.push_cuts.ensures
