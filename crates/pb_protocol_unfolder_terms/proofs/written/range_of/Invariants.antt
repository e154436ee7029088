use Rattle.std.proofs.Common.{◌≡◌, drop}
use Rattle.pb_text_meaning.specs.Sorts.{range_of}
use Rattle.pb_protocol_unfolder_terms.specs.View.{ranges_said}
use Rattle.pb_protocol_unfolder_terms.proofs.written.range_of.Given as goal

abbrev pub invariant-loop-range : goal.invariant-loop-range
invariant-loop-range l =
    range_of (ranges_said (drop l.range-index l.ranges)) l.name ≡ range_of (ranges_said l.ranges) l.name
