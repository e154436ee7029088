use Rattle.std.proofs.Common.{◌≡◌, Option, true, subst, IfOk}
use Rattle.pb_text_tree.specs.declared.place.Place.{Place}
use Rattle.pb_sorts.specs.Instance.{instance_of, is_instance}
use Rattle.pb_sorts.specs.Layout.{carriers_of}
use Rattle.pb_sorts.proofs.Numbers.{is_instance-slice_get}
use Rattle.pb_typing_calls.specs.View.{said_by}
use Rattle.pb_evidence_places.proofs.Placing.{place_known}
use Rattle.pb_evidence_places.proofs.call_places.NumberedCalls.place.Goals as goal

pub place-requires : goal.place-requires
place-requires c =
    let numbered = c.args.self.now in
    let i = instance_of c.instance-caller.result in
    subst (λ css. is_instance css i ≡ true) numbered.same
    (is_instance-slice_get (carriers_of numbered.layout.now) c.args.caller i c.instance-caller.ensures)

pub returns : goal.returns
returns c =
    let numbered = c.args.self.now in
    let known = place_known (said_by numbered.calls) numbered.layout.now c.args.caller c.args.called (instance_of c.instance-caller.result) (instance_of c.instance-called.result)
    c.instance-caller.ensures c.instance-called.ensures in
    subst (λ (p : Option Place). IfOk c.place.result (λ place. place ≡ p)) known c.place.ensures
