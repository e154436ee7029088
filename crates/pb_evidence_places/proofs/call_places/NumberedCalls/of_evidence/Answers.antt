use Rattle.std.proofs.Common.{ℕ, ◌<◌, length, sym, subst, arith}
use Rattle.std.proofs.lemmas.List.{get_or_read}
use Rattle.pb_sorts.specs.Layout.{count_of}
use Rattle.pb_typing_calls.specs.View.{said_by}
use Rattle.pb_evidence_places.specs.CallPlaces.{place_of_call}
use Rattle.pb_evidence_places.proofs.Placing.{none_placed, next_placed}
use Rattle.pb_evidence_places.proofs.call_places.NumberedCalls.of_evidence.Goals as goal

pub loop-k-init : goal.loop-k-init
loop-k-init c =
    let e = c.args.evidence.now in
    none_placed e.instances.items e.places.items e.dependencies.items e.divided (place_of_call (said_by c.args.self.now.calls) c.args.self.now.layout.now)
    c.in_ok-places.places.items c.in_ok-places.ensures.items

pub push_places-requires-clause-caller : goal.push_places-requires-clause-caller
push_places-requires-clause-caller c =
    let e = c.args.evidence.now in
    let within : c.loop-k.k < length e.instances.items = omega (arith, c.len-k-end.ensures, c.loop-k-test.true, e.instances.ok.0) in
    let read = get_or_read e.instances.items c.loop-k.k c.index-caller.result.now within c.index-caller.ensures 0 in
    subst (λ (n : ℕ). n < count_of c.args.self.now.layout.now) (sym read) (c.requires.callers c.loop-k.k within)

pub push_places-requires-clause-called : goal.push_places-requires-clause-called
push_places-requires-clause-called c =
    let e = c.args.evidence.now in
    let within : c.loop-k.k < length e.instances.items = omega (arith, c.len-k-end.ensures, c.loop-k-test.true, e.instances.ok.0) in
    c.requires.called c.loop-k.k within c.dependencies.result.now c.dependencies.ensures

pub loop-k-preserved : goal.loop-k-preserved
loop-k-preserved c =
    let e = c.args.evidence.now in
    let within : c.loop-k.k < length e.instances.items = omega (arith, c.len-k-end.ensures, c.loop-k-test.true, e.instances.ok.0) in
    let read = get_or_read e.instances.items c.loop-k.k c.index-caller.result.now within c.index-caller.ensures 0 in
    next_placed e.instances.items e.places.items e.dependencies.items e.divided (place_of_call (said_by c.args.self.now.calls) c.args.self.now.layout.now)
    c.loop-k.k within c.index-caller.result.now read c.dependencies.result.now c.dependencies.ensures
    c.loop-k.places.items c.push_places.new.places.items c.loop-k.invariant c.in_ok-push_places.ensures

pub returns : goal.returns
returns c = λ k within.
    let e = c.args.evidence.now in
    c.loop-k.invariant.placed k (omega (arith, within, c.loop-k-test.false, c.len-k-end.ensures, e.instances.ok.0))
