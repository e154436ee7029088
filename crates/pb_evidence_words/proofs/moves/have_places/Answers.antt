use Rattle.std.proofs.Common.{sym, ap, ◌∙◌}
use Rattle.pb_sorts.specs.Instance.{instance_of}
use Rattle.pb_typing_calls.specs.MadeCallView.{call_views}
use Rattle.pb_evidence_words.specs.Ready.{call_said}
use Rattle.pb_evidence_words.proofs.Choosing.{so-all, none-chosen, one-chosen}
use Rattle.pb_evidence_words.proofs.moves.have_places.Goals as goal

pub returns-in-None : goal.returns-in-None
returns-in-None c = λ is place.
    let none = sym c.first_call.ensures ∙ ap call_said c.in-None.is in
    none-chosen place (call_views c.args.calls.now) (instance_of c.args.called.now) none ∙ sym none

pub returns-in-Some : goal.returns-in-Some
returns-in-Some c = λ is place.
    one-chosen c.in-Some.first.now.place (instance_of c.args.called.now) place (call_views c.args.calls.now)
    (so-all c.are_nowhere_else.result _ c.are_nowhere_else.ensures is)
