use Rattle.std.proofs.Common.{◌*◌, ◌≤◌, arith}
use Rattle.std.proofs.Math.Nat.{mul-le-mul}
use Rattle.pb_protocol_groups.proofs.counts.fitting.Goals as goal

pub overflow_mul-more : goal.overflow_mul-more
overflow_mul-more c =
    let left : c.from.result ≤ 18446744073709551615 = omega (arith, c.loop-index.invariant.small) in
    let right : c.from-in-loop-index.result ≤ 18446744073709551615 = omega (arith, c.value_count-own.type_inv) in
    let both : c.from.result * c.from-in-loop-index.result ≤ 18446744073709551615 * 18446744073709551615 = mul-le-mul left right in
    omega (arith, both)
