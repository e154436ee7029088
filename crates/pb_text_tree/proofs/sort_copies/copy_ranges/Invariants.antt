use Rattle.std.proofs.Common.{◌≡◌, ◌++◌, drop, map}
use Rattle.pb_text_tree.specs.Form.{range_form}
use Rattle.pb_text_tree.proofs.sort_copies.copy_ranges.Given as goal

abbrev pub invariant-loop-range : goal.invariant-loop-range
invariant-loop-range l = map range_form l.copies.items ++ map range_form (drop l.range-index l.ranges) ≡ map range_form l.ranges
