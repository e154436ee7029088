use Rattle.std.proofs.Common.{sym}
use Rattle.pb_text_lexer.specs.Bytes.{word_kind}
use Rattle.pb_text_lexer.proofs.WordLemmas.{short_name, long_name}
use Rattle.pb_text_lexer.proofs.word.word_kind.Goals as goal

pub returns-then-word-lt-SHORTEST : goal.returns-then-word-lt-SHORTEST
returns-then-word-lt-SHORTEST c = sym (short_name c.args.word.now c.if-word-lt-SHORTEST.true)

pub returns-then-word-gt-LONGEST : goal.returns-then-word-gt-LONGEST
returns-then-word-gt-LONGEST c = sym (long_name c.args.word.now c.if-word-gt-LONGEST.true)

pub returns : goal.returns
unfolding word_kind
returns c = c.kind_among.ensures
