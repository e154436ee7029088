use Rattle.pb_text_lexer.proofs.BlankLemmas.{rest-is}
use Rattle.pb_text_lexer.proofs.model_piece.behind_blanks.Goals as goal

pub returns : goal.returns
returns c = rest-is c.args.bytes.now c.blanks_len.result c.blanks_len.ensures.value
