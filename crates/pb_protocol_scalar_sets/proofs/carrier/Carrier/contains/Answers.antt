use Rattle.std.proofs.Common.{◌≡◌, arith, pos, ◌+ℤ◌, to_z, of_z}
use Rattle.std.proofs.lemmas.Int.{ints}
use mir.Syntax.{w128}
use Rattle.pb_protocol_scalar_sets.proofs.Carriers.{contains-not_below, contains-below}
use Rattle.pb_protocol_scalar_sets.proofs.carrier.Carrier.contains.Goals as goal

pub returns-then-low-value : goal.returns-then-low-value
returns-then-low-value c =
    let s = c.args.self.now in
    let value : to_z w128 (of_z w128 c.args.value) ≡ c.args.value = omega (arith, ints) in
    let end : to_z w128 (of_z w128 (to_z w128 (of_z w128 c.from-low.result) +ℤ to_z w128 (of_z w128 c.from.result))) ≡ s.low +ℤ pos s.count = omega (arith, ints) in
    contains-not_below s.low s.count c.args.value (to_z w128 (of_z w128 c.args.value))
    (to_z w128 (of_z w128 (to_z w128 (of_z w128 c.from-low.result) +ℤ to_z w128 (of_z w128 c.from.result)))) (omega (arith, ints)) value end

pub returns-else-low-value : goal.returns-else-low-value
returns-else-low-value c =
    let s = c.args.self.now in
    let low : to_z w128 (of_z w128 c.from-low.result) ≡ s.low = omega (arith, ints) in
    let value : to_z w128 (of_z w128 c.args.value) ≡ c.args.value = omega (arith, ints) in
    contains-below s.low s.count c.args.value (to_z w128 (of_z w128 c.from-low.result)) (to_z w128 (of_z w128 c.args.value)) (omega (arith, ints)) low value
