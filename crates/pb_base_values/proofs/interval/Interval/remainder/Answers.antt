use Rattle.std.proofs.Common.{arith, ap, sym, ◌∙◌, pos, ◌-ℤ◌}
use Rattle.std.specs.Int.{int_min}
use Rattle.std.proofs.lemmas.Int.{ints, clamps}
use Rattle.pb_base_values.specs.Interval.{within}
use Rattle.pb_base_values.proofs.Ends.{between, same_within, remainders_above, remainders_below}
use Rattle.pb_base_values.proofs.interval.Interval.remainder.Goals as goal

pub limited-requires : goal.limited-requires
limited-requires c = omega (arith, ints, clamps)

pub returns-then-low-ge0 : goal.returns-then-low-ge0
returns-then-low-ge0 c =
    let i = c.args.self in
    let j = c.args.other in
    same_within c.args.limits _ _ _ (between (pos 0) (int_min i.high (j.high -ℤ pos 1))) c.limited.ensures (omega (arith, ints)) (omega (arith, ints, clamps))
    ∙ sym (ap (within c.args.limits) (remainders_above i j (omega (arith, ints))))

pub returns-else-low-ge0 : goal.returns-else-low-ge0
returns-else-low-ge0 c =
    let i = c.args.self in
    let j = c.args.other in
    same_within c.args.limits _ _ _ (between (pos 0) (j.high -ℤ pos 1)) c.limited-else-low-ge0.ensures (omega (arith, ints)) (omega (arith, ints))
    ∙ sym (ap (within c.args.limits) (remainders_below i j (omega (arith, ints))))
