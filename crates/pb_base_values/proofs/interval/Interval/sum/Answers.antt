use Rattle.std.proofs.Common.{arith}
use Rattle.std.proofs.lemmas.Int.{ints}
use Rattle.pb_base_values.specs.Operation.{sums}
use Rattle.pb_base_values.proofs.Ends.{same_within}
use Rattle.pb_base_values.proofs.interval.Interval.sum.Goals as goal

pub returns : goal.returns
returns c =
    same_within c.args.limits _ _ _ (sums c.args.self c.args.other) c.limited.ensures (omega (arith, ints)) (omega (arith, ints))
