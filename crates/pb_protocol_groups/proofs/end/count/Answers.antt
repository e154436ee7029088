use Rattle.std.proofs.Common.{arith, sym}
use Rattle.std.proofs.lemmas.Int.{ints}
use Rattle.pb_sorts.proofs.Intervals.{length-interval}
use Rattle.pb_protocol_groups.proofs.Values.{length-none}
use Rattle.pb_protocol_groups.proofs.end.count.Goals as goal

pub returns-then-range : goal.returns-then-range
returns-then-range c = sym (length-interval c.args.range.now.low c.args.range.now.high _ (omega (arith, ints)))

pub returns-else-range : goal.returns-else-range
returns-else-range c = length-none c.args.range.now.low c.args.range.now.high (omega (arith, ints))
