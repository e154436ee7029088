use Rattle.std.proofs.Common.{◌≡◌, drop}
use Rattle.std.specs.List.{find}
use Rattle.pb_typing_calls.specs.MadeCallView.{call_views}
use Rattle.pb_sorts.specs.Instance.{instance_of}
use Rattle.pb_evidence_words.specs.WhyText.{is_call_at}
use Rattle.pb_evidence_words.proofs.moves.first_call_at.Given as goal

abbrev pub invariant-loop-call : goal.invariant-loop-call
invariant-loop-call l =
    find (is_call_at l.place (instance_of l.called)) (call_views (drop l.call-index l.calls))
    ≡ find (is_call_at l.place (instance_of l.called)) (call_views l.calls)
