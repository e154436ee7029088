use Rattle.std.proofs.Common.{◌≡◌, ◌==◌, drop, length}
use Rattle.pb_typing_tree.specs.Calls.{call_places, places_of}
use Rattle.pb_typing_calls.proofs.calls.+has_no_call.Given as goal

-- the operands that are left decide whether the chain has no call
abbrev pub invariant-loop-link : goal.invariant-loop-link
invariant-loop-link l =
    (length (places_of (drop l.link-index l.link-items)) == 0)
    ≡ (length (call_places l.formula) == 0)

abbrev pub decreases-has_no_call : goal.decreases-has_no_call
decreases-has_no_call l = goal.size-has_no_call l
