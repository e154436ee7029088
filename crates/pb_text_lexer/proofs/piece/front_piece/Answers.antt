use Rattle.std.proofs.Common.{rules, ◌∙◌, sym}
use Rattle.pb_text_lexer.proofs.DigitLemmas.{digits-at}
use Rattle.pb_text_lexer.proofs.piece.front_piece.Goals as goal

pub number-requires : goal.number-requires
number-requires c =
    digits-at c.args.bytes.now c.digits_len.result (search rules) (sym c.is_ascii_digit.ensures.value ∙ c.if-is_ascii_digit.true) c.digits_len.ensures.value
