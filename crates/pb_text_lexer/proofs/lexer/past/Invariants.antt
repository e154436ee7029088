use Rattle.std.proofs.Common.{◌≡◌, ◌+◌, ◌≤◌, drop}
use Rattle.pb_text_lexer.specs.Lexing.{past}
use Rattle.pb_text_lexer.proofs.lexer.past.Given as goal

abbrev pub invariant-loop-byte : goal.invariant-loop-byte
invariant-loop-byte l = record {
  value : past l.initial.place l.bytes ≡ past l.place (drop l.byte-index l.bytes);
  line : l.place.line ≤ l.initial.place.line + l.byte-index;
  column : l.place.column ≤ l.initial.place.column + l.byte-index;
}
