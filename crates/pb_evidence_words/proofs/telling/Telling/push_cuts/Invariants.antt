use Rattle.std.proofs.Common.{◌≡◌, ◌++◌, flat_map, string_bytes, take}
use Rattle.pb_typing_calls.specs.MadeCallView.{call_views}
use Rattle.pb_sorts.specs.Instance.{instance_of}
use Rattle.pb_evidence_words.specs.Ready.{told_of}
use Rattle.pb_evidence_words.specs.WhyText.{cut_text}
use Rattle.pb_evidence_words.proofs.telling.Telling.push_cuts.Given as goal

abbrev pub invariant-loop-call : goal.invariant-loop-call
invariant-loop-call l =
    string_bytes l.text ≡ string_bytes l.fn.text
    ++ flat_map (cut_text (told_of l.self.shown.now) (instance_of l.caller.instance)) (call_views (take l.call-index l.call-items))
