use Rattle.std.proofs.Common.{◌<◌, ℕ, ◌+◌, ◌*◌, ◌∙◌, Some, length, map, ap, arith, rules, FitsSigned, w64}
use Rattle.pb_base_values.specs.Carrier.{tuple_count}
use Rattle.std.proofs.lemmas.Int.{to_z-of_z}
use Rattle.std.proofs.lemmas.Option.{slice_get_within}
use Rattle.std.proofs.lemmas.Slice.Zip.{Zip-more, either_empty_from_Zip}
use Rattle.pb_sorts.specs.Carrier.{values_of}
use Rattle.pb_sorts.proofs.Reading.{is_within-other_length, reading_goes_on, reading_ends, next_fits}
use Rattle.pb_sorts.proofs.tuple.place_of_tuple.Goals as goal
use Rattle.pb_sorts.proofs.tuple.place_of_tuple.Goals.{After-size}

pub returns-then-carriers-values-clause-exists : goal.returns-then-carriers-values-clause-exists
returns-then-carriers-values-clause-exists c = grind (arith, is_within-other_length c.args.carriers.now c.args.values.now c.if-carriers-values.true)

-- with one digit more it is below the count of all tuples
fits : (c : After-size) (q : ℕ) → q < c.size.result → c.loop-carrier.place * c.size.result + q < tuple_count (map values_of c.args.carriers.now)
fits c q digit =
    let rest = Zip-more c.loop-carrier.carrier-iterator c.next.new.self c.next.result (c.in-Some.carrier, c.in-Some.value) c.in-Some.is c.next.ensures.steps in
    next_fits c.args.carriers.now c.args.values.now c.loop-carrier.place _ _ c.in-Some.carrier.now _ c.size.result q c.loop-carrier.invariant rest.0 c.size.ensures.count digit

pub overflow_mul-place : goal.overflow_mul-place
overflow_mul-place c =
    let below = fits (goal.at.overflow_mul-place c).After-size 0 c.size.ensures.some in
    omega (arith, below, c.requires)

pub overflow_add-place : goal.overflow_add-place
overflow_add-place c =
    let digit : c.in_ok-place.field-0 < length (values_of c.in-Some.carrier.now) = slice_get_within (values_of c.in-Some.carrier.now) c.in_ok-place.field-0 _ c.in_ok-place.ensures in
    let below = fits (goal.at.overflow_add-place c).After-size c.in_ok-place.field-0 (omega (arith, digit, c.size.ensures.count)) in
    omega (arith, below, c.requires)

pub loop-carrier-preserved : goal.loop-carrier-preserved
loop-carrier-preserved c =
    let rest = Zip-more c.loop-carrier.carrier-iterator c.next.new.self c.next.result (c.in-Some.carrier, c.in-Some.value) c.in-Some.is c.next.ensures.steps in
    let fits : FitsSigned w64 c.in-Some.value.now = search rules in
    reading_goes_on c.args.carriers.now c.args.values.now c.loop-carrier.place _ _ c.in-Some.carrier.now _ c.in-Some.value.now _ c.in_ok-place.field-0 _ c.loop-carrier.invariant rest.0 rest.1
    (c.in_ok-place.ensures ∙ ap Some (to_z-of_z w64 c.in-Some.value.now fits)) (ap (λ (n : ℕ). c.loop-carrier.place * n + c.in_ok-place.field-0) c.size.ensures.count)

pub returns-clause-place : goal.returns-clause-place
returns-clause-place c =
    reading_ends c.args.carriers.now c.args.values.now c.loop-carrier.place _ _ c.loop-carrier.invariant
    (either_empty_from_Zip c.loop-carrier.carrier-iterator c.next.new.self c.next.result c.in-None.is c.next.ensures.steps)
