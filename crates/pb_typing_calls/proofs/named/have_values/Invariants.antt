use Rattle.std.proofs.Common.{◌≡◌, map, drop}
use Rattle.std.specs.Cmp.Lexicographic.{pointwise}
use Rattle.std.specs.Ordering.{int_eq}
use Rattle.pb_typing_tree.specs.View.{argument_view}
use Rattle.pb_typing_values.specs.Slots.{slots_of}
use Rattle.pb_typing_calls.specs.Made.{argument_values}
use Rattle.pb_typing_calls.proofs.named.have_values.Given as goal

-- the arguments and values that are left decide
abbrev pub invariant-loop-index : goal.invariant-loop-index
invariant-loop-index l =
    let a = slots_of l.slots in
    let all = argument_values a (map argument_view l.arguments) in
    pointwise int_eq (drop l.index all) (drop l.index l.values) ≡ pointwise int_eq all l.values
