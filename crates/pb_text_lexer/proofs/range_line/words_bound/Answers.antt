use Rattle.std.proofs.Common.{rules, ◌≡◌, true}
use Rattle.pb_text_lexer.specs.Bytes.{is_name}
use Rattle.pb_text_lexer.proofs.PieceLemmas.{name-is-ascii}
use Rattle.pb_text_lexer.proofs.range_line.words_bound.Goals as goal

pub text_of-name-requires : goal.text_of-name-requires
text_of-name-requires c =
    let named : is_name c.first_word.result.0.now ≡ true = search rules in
    name-is-ascii c.first_word.result.0.now named
