use Rattle.std.proofs.Common.{arith, ◌+ℤ◌, pos, ◌≤ℤ◌}
use Rattle.std.proofs.lemmas.Int.{ints}
use Rattle.pb_sorts.specs.Carrier.{values_of}
use Rattle.pb_sorts.proofs.Intervals.{slice_get-from_interval, place_within}
use Rattle.pb_machine.proofs.instance_values.value_at.Goals as goal
use Rattle.pb_machine.proofs.instance_values.value_at.Goals.{After-bounds-least}

-- the number at the place is within the bounds
within : (c : After-bounds-least) → (c.bounds-least.result.0 +ℤ pos c.args.place) ≤ℤ c.bounds-least.result.1
within c =
    let b = c.bounds-least in
    place_within (values_of c.args.carrier.now) b.result.0 b.result.1 c.args.place b.ensures.interval b.ensures.order c.requires

pub overflow_cast-result : goal.overflow_cast-result
overflow_cast-result c = omega (arith, ints, within (goal.at.overflow_cast-result c).After-bounds-least, c.bounds-least.ensures.high, c.bounds-least.ensures.low)

pub overflow_add-result : goal.overflow_add-result
overflow_add-result c = omega (arith, ints, within (goal.at.overflow_add-result c).After-bounds-least, c.bounds-least.ensures.high, c.bounds-least.ensures.low)

pub returns : goal.returns
returns c =
    let i = within (goal.at.returns c).After-bounds-least in
    let b = c.bounds-least in
    slice_get-from_interval (values_of c.args.carrier.now) b.result.0 b.result.1 _ c.args.place b.ensures.interval
    (omega (arith, ints, i, b.ensures.high, b.ensures.low)) (omega (arith, ints, i, b.ensures.high, b.ensures.low))
