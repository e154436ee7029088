use Rattle.std.proofs.Common.{◌≡◌, ◌*◌, false, slice_index_or, rules}
use Rattle.pb_protocol_representatives.specs.declared.digit.Digit.{Digit}
use Rattle.pb_protocol_representatives.proofs.Loops.{count-next}
use Rattle.pb_protocol_representatives.proofs.digit.combinations_of.Goals as goal

pub loop-digit-preserved : goal.loop-digit-preserved
loop-digit-preserved c =
    let d : Digit = record { size = 0; is_element = false } in
    let made : c.in_ok-count.count ≡ c.loop-digit.count * (slice_index_or c.args.digits.now c.loop-digit.digit-index d).size = search rules in
    count-next c.args.digits.now c.loop-digit.digit-index d c.loop-digit-test.true c.loop-digit.count c.in_ok-count.count c.loop-digit.invariant made
