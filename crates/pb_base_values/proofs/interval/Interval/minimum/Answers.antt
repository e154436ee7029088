use Rattle.std.proofs.Common.{arith}
use Rattle.std.proofs.lemmas.Int.{ints, clamps}
use Rattle.pb_base_values.specs.Operation.{minima}
use Rattle.pb_base_values.proofs.Ends.{same_within}
use Rattle.pb_base_values.proofs.interval.Interval.minimum.Goals as goal

pub limited-requires : goal.limited-requires
limited-requires c = omega (arith, ints, clamps)

pub returns : goal.returns
returns c =
    same_within c.args.limits _ _ _ (minima c.args.self c.args.other) c.limited.ensures (omega (arith, ints, clamps)) (omega (arith, ints, clamps))
