use Rattle.std.proofs.Common.{◌≡◌, ◌∙◌, arith, to_z, of_z, w32}
use Rattle.std.proofs.lemmas.Int.{ints}
use Rattle.pb_protocol_groups.proofs.Values.{lowest-interval, lowest-none}
use Rattle.pb_protocol_groups.proofs.end.lowest.Goals as goal

pub returns-then-low-range : goal.returns-then-low-range
returns-then-low-range c =
    let e : to_z w32 (of_z w32 c.args.range.now.low) ≡ c.args.range.now.low = omega (arith, ints) in
    e ∙ lowest-interval c.args.range.now.low c.args.range.now.high (omega (arith, ints))

pub returns : goal.returns
returns c = lowest-none c.args.range.now.low c.args.range.now.high (omega (arith, ints))
