use Rattle.std.proofs.Common.{◌≡◌, drop}
use Rattle.std.specs.List.{list_all}
use Rattle.pb_typing_calls.specs.MadeCallView.{call_views}
use Rattle.pb_sorts.specs.Instance.{instance_of}
use Rattle.pb_evidence_words.proofs.Choosing.{nowhere_else}
use Rattle.pb_evidence_words.proofs.moves.are_nowhere_else.Given as goal

abbrev pub invariant-loop-call : goal.invariant-loop-call
invariant-loop-call l =
    list_all (nowhere_else l.place (instance_of l.called)) (call_views (drop l.call-index l.calls))
    ≡ list_all (nowhere_else l.place (instance_of l.called)) (call_views l.calls)
