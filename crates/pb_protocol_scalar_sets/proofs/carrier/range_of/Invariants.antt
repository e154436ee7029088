use Rattle.std.proofs.Common.{◌≡◌, drop}
use Rattle.pb_text_meaning.specs.Sorts as sorts
use Rattle.pb_protocol_scalar_sets.specs.Sorts.{ranges_in}
use Rattle.pb_protocol_scalar_sets.proofs.carrier.range_of.Given as goal

abbrev pub invariant-loop-range : goal.invariant-loop-range
invariant-loop-range l = sorts.range_of (ranges_in (drop l.range-index l.ranges)) l.sort ≡ sorts.range_of (ranges_in l.ranges) l.sort
