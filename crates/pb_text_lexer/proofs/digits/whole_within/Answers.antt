use Rattle.std.proofs.Common.{rules, length, ◌≡◌}
use Rattle.pb_text_lexer.specs.Bytes.{digits}
use Rattle.pb_text_lexer.proofs.DigitLemmas.{all-digits}
use Rattle.pb_text_lexer.proofs.digits.whole_within.Goals as goal

pub value_within-requires-clause-digits : goal.value_within-requires-clause-digits
value_within-requires-clause-digits c =
    let same : length (digits c.args.word.now) ≡ length c.args.word.now = search rules in
    all-digits c.args.word.now same
