use Rattle.std.proofs.Common.{◌≡◌, ◌++◌, ◌-◌}
use Rattle.std.specs.List.{range_with_len}
use Rattle.pb_typing_calls.proofs.scope.with_slots.Given as goal

-- the slots so far and those that are left are all
abbrev pub invariant-loop-slot : goal.invariant-loop-slot
invariant-loop-slot l =
    l.slots.items ++ range_with_len l.slot (l.end - l.slot)
    ≡ l.own ++ range_with_len l.start (l.end - l.start)
