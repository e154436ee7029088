use Rattle.std.proofs.Common.{arith, ap, sym, ◌∙◌, pos, neg_ℤ}
use Rattle.std.specs.Int.{int_max}
use Rattle.std.proofs.lemmas.Int.{ints, clamps}
use Rattle.pb_base_values.specs.Interval.{within}
use Rattle.pb_base_values.proofs.Ends.{between, same_within, absolute_below, absolute_across}
use Rattle.pb_base_values.proofs.interval.Interval.absolute_value.Goals as goal

pub returns-then-high-le0 : goal.returns-then-high-le0
returns-then-high-le0 c = c.negation.ensures ∙ sym (ap (within c.args.limits) (absolute_below c.args.self (omega (arith, ints)) (omega (arith, ints))))

pub returns-else-high-le0 : goal.returns-else-high-le0
returns-else-high-le0 c =
    let i = c.args.self in
    same_within c.args.limits _ _ _ (between (pos 0) (int_max (neg_ℤ i.low) i.high)) c.limited-else-high-le0.ensures (omega (arith, ints)) (omega (arith, ints, clamps))
    ∙ sym (ap (within c.args.limits) (absolute_across i (omega (arith, ints)) (omega (arith, ints))))
