use Rattle.std.proofs.Common.{◌<◌, ◌≡◌, IfOk, Option, length, subst}
use Rattle.std.proofs.Common.{arith, refl}
use Rattle.pb_text_tree.specs.declared.place.Place.{Place}
use Rattle.pb_sorts.specs.Instance.{instance_of}
use Rattle.pb_text_meaning.specs.Erase.{erase}
use Rattle.pb_typing_calls.specs.View.{said_by}
use Rattle.pb_typing_calls.proofs.Callers.{caller-fits, caller-slots, first-of-text, form-at, laid-out, no-form}
use Rattle.pb_typing_calls.proofs.Callers.{no_called, no_caller, tree-read, IsTreeOf}
use Rattle.pb_typing_calls.proofs.places.CallPlaces.place.Goals as goal
use Rattle.pb_typing_calls.proofs.places.CallPlaces.place.Goals.{In-Some}

read : (c : In-Some) → IsTreeOf (said_by c.args.self.now) (instance_of c.args.caller.now).equation c.in-Some.equation.now
read c =
    tree-read c.args.self.now.typed.now c.deref.result.now _ c.from.result _ c.deref.ensures.value c.from.ensures
    c.in-Some.ensures.lookup.3.0 c.in-Some.ensures.lookup.1

pub first_call-requires : goal.first_call-requires
first_call-requires c =
    caller-fits c.args.self.now.typed.now (instance_of c.args.caller.now) _ _ (read (goal.at.first_call-requires c).In-Some) c.requires
    (caller-slots c.deref_mut.ensures.value c.in_ok-slots.ensures c.as_slice.ensures c.deref-2.ensures.value)

pub returns : goal.returns
returns c =
    let t = c.args.self.now.typed.now in
    let i = instance_of c.args.caller.now in
    let j = instance_of c.args.called.now in
    let of = read (goal.at.returns c).In-Some in
    let below : c.from-2.result < length t.equations.items =
    omega (arith, c.if-from-len.false, c.len.ensures) in
    let at_called =
    form-at t t.equations.items j.equation c.from-2.result of.form refl c.from-2.ensures below in
    let are = caller-slots c.deref_mut.ensures.value c.in_ok-slots.ensures c.as_slice.ensures c.deref-2.ensures.value in
    let same = first-of-text t i j _ _ c.deref_mut.result.now of c.requires are at_called in
    subst (λ (p : Option Place). IfOk c.first_call.result (λ place. place ≡ p)) same
    (c.first_call.ensures (erase (said_by c.args.self.now)) (laid-out t))

pub returns-in_default : goal.returns-in_default
returns-in_default c =
    no_caller (said_by c.args.self.now) (instance_of c.args.caller.now) (instance_of c.args.called.now)
    (no-form c.args.self.now.typed.now c.deref.result.now _ c.from.result c.deref.ensures.value c.from.ensures
    c.in_default.ensures.lookup.3)

pub returns-then-from-len : goal.returns-then-from-len
returns-then-from-len c =
    let t = c.args.self.now.typed.now in
    let of = read (goal.at.returns-then-from-len c).In-Some in
    no_called (said_by c.args.self.now) _ (instance_of c.args.called.now) of.form of.at
    (no-form t t.equations.items _ c.from-2.result refl c.from-2.ensures
    (omega (arith, c.if-from-len.true, c.len.ensures)))
