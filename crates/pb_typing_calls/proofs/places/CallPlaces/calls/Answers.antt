use Rattle.std.proofs.Common.{◌∙◌, ◌++◌, [], List, ap}
use Rattle.pb_sorts.specs.Instance.{instance_of}
use Rattle.pb_text_meaning.specs.Erase.{erase}
use Rattle.pb_typing_tree.specs.Calls.{call_places}
use Rattle.pb_typing_tree.specs.View.{formula_view}
use Rattle.pb_typing_values.specs.Slots.{slots_of}
use Rattle.pb_typing_calls.specs.Gathered.{gathered}
use Rattle.pb_typing_calls.specs.MadeCallView.{call_views}
use Rattle.pb_typing_calls.specs.View.{said_by}
use Rattle.pb_typing_calls.specs.declared.made_call.MadeCall.{MadeCall}
use Rattle.pb_typing_calls.proofs.Callers.{caller-fits, caller-slots, calls-of-text, laid-out, tree-read, IsTreeOf}
use Rattle.pb_typing_calls.proofs.places.CallPlaces.calls.Goals as goal
use Rattle.pb_typing_calls.proofs.places.CallPlaces.calls.Goals.{After-deref_mut}

read : (c : After-deref_mut) → IsTreeOf (said_by c.args.self.now) (instance_of c.args.caller.now).equation c.in-Some.equation.now
read c =
    tree-read c.args.self.now.typed.now c.deref.result.now _ c.from.result _ c.deref.ensures.value c.from.ensures
    c.in-Some.ensures.lookup.3.0 c.in-Some.ensures.lookup.1

pub push_calls-requires : goal.push_calls-requires
push_calls-requires c =
    caller-fits c.args.self.now.typed.now (instance_of c.args.caller.now) _ _ (read (goal.at.push_calls-requires c).After-deref_mut) c.requires
    (caller-slots c.deref_mut.ensures.value c.in_ok-slots.ensures c.as_slice.ensures c.deref-2.ensures.value)

pub returns : goal.returns
returns c =
    let t = c.args.self.now.typed.now in
    let X = c.in-Some.equation.now in
    let S = erase (said_by c.args.self.now) in
    let vs = c.deref_mut.result.now in
    let made = gathered S [] (slots_of vs) (formula_view X.right) (call_places X.right) in
    let are = caller-slots c.deref_mut.ensures.value c.in_ok-slots.ensures c.as_slice.ensures c.deref-2.ensures.value in
    c.in_ok-push_calls.ensures.calls S (laid-out t)
    ∙ (ap (λ (cs : List MadeCall). call_views cs ++ made) c.new-calls.ensures.items
    ∙ calls-of-text t (instance_of c.args.caller.now) X vs (read (goal.at.returns c).After-deref_mut) c.requires are)
