use Rattle.std.proofs.Common.{◌≡◌, ◌++◌, drop, map}
use Rattle.pb_typing_values.specs.Slots.{slots_of}
use Rattle.pb_typing_calls.proofs.values.held_values.Given as goal

-- the values so far and those that are left are all
abbrev pub invariant-loop-index : goal.invariant-loop-index
invariant-loop-index l =
    let all = map (slots_of l.slots) l.own in
    l.values.items ++ drop l.index all ≡ all
