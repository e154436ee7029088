use Rattle.std.proofs.Common.{arith, ◌+◌, ◌<◌, sym, take}
use Rattle.std.specs.Str.Parse.{digits_value}
use Rattle.pb_text_lexer.proofs.DigitLemmas.{one-more, digit-at-least, digit-at-most, value-large}
use Rattle.pb_text_lexer.proofs.digits.value_within.Goals as goal

pub overflow_sub-digit : goal.overflow_sub-digit
overflow_sub-digit c = digit-at-least c.args.digits.now c.loop-digit.digit-index c.requires.digits c.loop-digit-test.true

pub overflow_sub-largest : goal.overflow_sub-largest
overflow_sub-largest c =
    let small = digit-at-most c.args.digits.now c.loop-digit.digit-index c.requires.digits c.loop-digit-test.true in
    omega (arith, small, c.from-digit.ensures, c.requires.room)

pub returns-then-value-largest : goal.returns-then-value-largest
returns-then-value-largest c =
    let more = one-more c.args.digits.now c.loop-digit.digit-index c.loop-digit.value c.from-digit.result c.requires.digits c.loop-digit-test.true c.loop-digit.invariant.value c.from-digit.ensures in
    let large : c.args.largest < digits_value 10 (take (c.loop-digit.digit-index + 1) c.args.digits.now) = omega arith in
    sym (value-large c.args.largest c.args.digits.now (c.loop-digit.digit-index + 1) large)

pub loop-digit-preserved : goal.loop-digit-preserved
loop-digit-preserved c =
    let more = one-more c.args.digits.now c.loop-digit.digit-index c.loop-digit.value c.from-digit.result c.requires.digits c.loop-digit-test.true c.loop-digit.invariant.value c.from-digit.ensures in
    let small = digit-at-most c.args.digits.now c.loop-digit.digit-index c.requires.digits c.loop-digit-test.true in
    record { value = more; small = omega (arith, small, c.from-digit.ensures) }
