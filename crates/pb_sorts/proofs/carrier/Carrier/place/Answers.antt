use Rattle.std.proofs.Common.{arith, sym, ◌≤ℤ◌, to_z, of_z, w64}
use Rattle.std.proofs.lemmas.Int.{ints}
use Rattle.pb_sorts.specs.Carrier.{values_of}
use Rattle.pb_sorts.proofs.Intervals.{within-contains, slice_get-from_interval}
use Rattle.pb_sorts.proofs.carrier.Carrier.place.Goals as goal
use Rattle.pb_sorts.proofs.carrier.Carrier.place.Goals.{After-bounds-least}

within : (c : After-bounds-least) → (c.bounds-least.result.0 ≤ℤ to_z w64 (of_z w64 c.args.value)) × (to_z w64 (of_z w64 c.args.value) ≤ℤ c.bounds-least.result.1)
within c =
    let b = c.bounds-least in
    within-contains (values_of c.args.self.now) b.result.0 b.result.1 (to_z w64 (of_z w64 c.args.value)) b.ensures.interval b.ensures.order (sym c.if-contains.ensures)

pub overflow_sub-result : goal.overflow_sub-result
overflow_sub-result c =
    let inside = within (goal.at.overflow_sub-result c).After-bounds-least in
    omega (arith, ints, inside.0, inside.1, c.bounds-least.ensures.high, c.bounds-least.ensures.low)

pub overflow_cast-result : goal.overflow_cast-result
overflow_cast-result c =
    let inside = within (goal.at.overflow_cast-result c).After-bounds-least in
    let b = c.bounds-least.ensures in
    (grind (arith, ints, inside.0, inside.1, b.high, b.low), omega (arith, ints, inside.0, inside.1, b.high, b.low))

pub returns-then-contains : goal.returns-then-contains
returns-then-contains c =
    let inside = within (goal.at.returns-then-contains c).After-bounds-least in
    let b = c.bounds-least in
    slice_get-from_interval (values_of c.args.self.now) b.result.0 b.result.1 c.args.value _ b.ensures.interval
    (omega (arith, ints, inside.0, inside.1, b.ensures.high, b.ensures.low)) (omega (arith, ints, inside.1))
