use Rattle.std.proofs.Common.{◌≡◌, drop}
use Rattle.pb_typing_tree.specs.Calls.{call_places, places_of}
use Rattle.pb_typing_calls.proofs.Unmade.{any_at}
use Rattle.pb_typing_calls.proofs.calls.+has_call_at.Given as goal

-- the operands that are left decide whether the chain has the call
abbrev pub invariant-loop-link : goal.invariant-loop-link
invariant-loop-link l =
    any_at l.place (places_of (drop l.link-index l.link-items))
    ≡ any_at l.place (call_places l.formula)

abbrev pub decreases-has_call_at : goal.decreases-has_call_at
decreases-has_call_at l = goal.size-has_call_at l
