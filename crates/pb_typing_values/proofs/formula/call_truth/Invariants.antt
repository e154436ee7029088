use Rattle.std.proofs.Common.{◌≡◌, ◌++◌, drop, length}
use Rattle.pb_typing_values.specs.Slots.{slots_of}
use Rattle.pb_typing_values.proofs.Called.{argument_values}
use Rattle.pb_typing_values.proofs.formula.call_truth.Given as goal

-- the values so far and those of the arguments that are left are all values, and there is room for eight
abbrev pub invariant-loop-argument : goal.invariant-loop-argument
invariant-loop-argument l =
    let a = slots_of l.slots in
    record {
      so_far : l.values.items ++ argument_values a (drop l.argument-index l.arguments.items) ≡ argument_values a l.arguments.items;
      count : length l.values.items ≡ l.argument-index;
      room : l.values.capacity ≡ 8;
    }
