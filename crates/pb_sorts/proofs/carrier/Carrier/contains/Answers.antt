use Rattle.std.proofs.Common.{arith, to_z, of_z, w64}
use Rattle.std.proofs.lemmas.Int.{ints}
use Rattle.pb_sorts.specs.Carrier.{values_of}
use Rattle.pb_sorts.proofs.Intervals.{contains-not_below, contains-below}
use Rattle.pb_sorts.proofs.carrier.Carrier.contains.Goals as goal

pub returns-then-least-value : goal.returns-then-least-value
returns-then-least-value c =
    let b = c.bounds-least in
    contains-not_below (values_of c.args.self.now) b.result.0 b.result.1 c.args.value (to_z w64 (of_z w64 c.args.value))
    (to_z w64 (of_z w64 b.result.1)) b.ensures.interval b.ensures.order (omega (arith, ints, c.if-least-value.true))
    (omega (arith, ints)) (omega (arith, ints))

pub returns-else-least-value : goal.returns-else-least-value
returns-else-least-value c =
    let b = c.bounds-least in
    contains-below (values_of c.args.self.now) b.result.0 b.result.1 c.args.value (to_z w64 (of_z w64 b.result.0))
    (to_z w64 (of_z w64 c.args.value)) b.ensures.interval b.ensures.order
    (omega (arith, ints, c.if-least-value.false)) (omega (arith, ints)) (omega (arith, ints))
