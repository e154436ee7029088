use Rattle.std.proofs.Common.{◌≡◌, ◌++◌, drop}
use Rattle.pb_typing_tree.specs.Calls.{call_places, places_of}
use Rattle.pb_typing_calls.proofs.calls.+push_calls.Given as goal

-- the places so far and those of the operands that are left are all places
abbrev pub invariant-loop-link : goal.invariant-loop-link
invariant-loop-link l =
    l.places.items ++ places_of (drop l.link-index l.link-items)
    ≡ l.fn.places.items ++ call_places l.formula
