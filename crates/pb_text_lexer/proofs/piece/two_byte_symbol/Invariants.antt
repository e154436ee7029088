use Rattle.std.proofs.Common.{◌≡◌, drop}
use Rattle.pb_text_lexer.specs.Lexing.{two_bytes_among}
use Rattle.pb_text_lexer.proofs.piece.two_byte_symbol.Given as goal

abbrev pub invariant-loop-a : goal.invariant-loop-a
invariant-loop-a l = two_bytes_among l.table l.first l.second ≡ two_bytes_among (drop l.a-index l.table) l.first l.second
