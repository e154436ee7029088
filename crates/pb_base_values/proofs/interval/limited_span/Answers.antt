use Rattle.std.proofs.Common.{◌∙◌, arith, to_z-of_z}
use Rattle.std.specs.Int.{int_max, int_min}
use Rattle.std.proofs.lemmas.Int.{ints, clamps}
use Rattle.pb_base_values.specs.Operation.{span_of_four}
use Rattle.pb_base_values.proofs.Ends.{same_within, same_two, passed}
use Rattle.pb_base_values.proofs.interval.limited_span.Goals as goal

pub limited-requires : goal.limited-requires
limited-requires c = omega (arith, ints, clamps)

pub returns : goal.returns
returns c =
    let x = c.args.a in
    let y = c.args.b in
    let z = c.args.c in
    let w = c.args.d in
    let ex = to_z-of_z c.ranges.a in
    let ey = to_z-of_z c.ranges.b in
    let ez = to_z-of_z c.ranges.c in
    let ew = to_z-of_z c.ranges.d in
    let least = same_two int_min (passed _ _ c.min.type_inv (c.min.ensures.value ∙ same_two int_min ex ey)) (passed _ _ c.min-2.type_inv (c.min-2.ensures.value ∙ same_two int_min ez ew)) in
    let greatest = same_two int_max (passed _ _ c.max.type_inv (c.max.ensures.value ∙ same_two int_max ex ey)) (passed _ _ c.max-2.type_inv (c.max-2.ensures.value ∙ same_two int_max ez ew)) in
    same_within c.args.limits _ _ _ (span_of_four x y z w) c.limited.ensures
    (passed _ _ c.min-low.type_inv (c.min-low.ensures.value ∙ least))
    (passed _ _ c.max-high.type_inv (c.max-high.ensures.value ∙ greatest))
