use Rattle.std.proofs.Common.{◌≡◌, drop}
use Rattle.pb_text_lexer.specs.Bytes.{kind_among, entries}
use Rattle.pb_text_lexer.proofs.word.kind_among.Given as goal

abbrev pub invariant-loop-text : goal.invariant-loop-text
invariant-loop-text l = kind_among (entries l.table) l.word ≡ kind_among (entries (drop l.text-index l.table)) l.word
