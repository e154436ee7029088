use Rattle.std.proofs.Common.{◌≡◌, ◌∙◌, Some, ap, arith, pos, ◌+ℤ◌}
use Rattle.std.proofs.lemmas.Int.{ints}
use Rattle.pb_sorts.proofs.Intervals.{slice_get-numbers_from}
use Rattle.pb_protocol_scalar_sets.proofs.carrier.Carrier.place.Goals as goal

pub returns-in-Ok : goal.returns-in-Ok
returns-in-Ok c =
    let s = c.args.self.now in
    let same : s.low +ℤ pos c.in-Ok.place ≡ c.args.value = grind (arith, ints) in
    slice_get-numbers_from s.low s.count c.in-Ok.place c.if-place-self.true ∙ ap Some same
