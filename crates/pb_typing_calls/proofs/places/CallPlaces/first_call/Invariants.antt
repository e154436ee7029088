use Rattle.std.proofs.Common.{◌≡◌, drop}
use Rattle.std.specs.List.{find}
use Rattle.pb_text_tree.specs.declared.place.Place.{Place}
use Rattle.pb_text_meaning.specs.Syntax.{Spec}
use Rattle.pb_sorts.specs.Instance.{instance_of}
use Rattle.pb_typing_tree.specs.Calls.{call_places}
use Rattle.pb_typing_tree.specs.View.{formula_view}
use Rattle.pb_typing_values.specs.Environment.{IsLaidOut}
use Rattle.pb_typing_values.specs.Slots.{slots_of}
use Rattle.pb_typing_calls.specs.Made.{first_made, made}
use Rattle.pb_typing_calls.specs.View.{layout_of}
use Rattle.pb_typing_calls.proofs.places.CallPlaces.first_call.Given as goal

-- the slots are as they were, and the first call stands among those that are left
abbrev pub invariant-loop-place : goal.invariant-loop-place
invariant-loop-place l =
    let a = slots_of l.fn.slots in
    let i = instance_of l.called in
    let f = formula_view l.right in
    let ps = call_places l.right in
    (l.slots ≡ l.fn.slots)
    × ((spec : Spec) → IsLaidOut spec (layout_of l.self)
    → find (λ (p : Place). made spec i p a f ps) (drop l.place-index l.place-items)
    ≡ first_made spec i a f ps)
