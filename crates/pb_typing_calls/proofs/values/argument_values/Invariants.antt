use Rattle.std.proofs.Common.{◌≡◌, ◌++◌, drop, map}
use Rattle.pb_typing_tree.specs.View.{argument_view}
use Rattle.pb_typing_values.specs.Slots.{slots_of}
use Rattle.pb_typing_calls.specs.Made.{argument_values}
use Rattle.pb_typing_calls.proofs.values.argument_values.Given as goal

-- the values so far and those that are left are all
abbrev pub invariant-loop-index : goal.invariant-loop-index
invariant-loop-index l =
    let all = argument_values (slots_of l.slots) (map argument_view l.arguments) in
    l.values.items ++ drop l.index all ≡ all
