use Rattle.std.proofs.Common.{length, map, vec_len}
use Rattle.pb_text_tree.specs.Form.{named}
use Rattle.pb_text_lexer.specs.Steps.{take_token}
use Rattle.pb_text_terms.specs.Reading.{name, names, is_comma}
use Rattle.pb_text_terms.proofs.ListLemmas.{IsListed}
use Rattle.pb_text_terms.proofs.variable.names.Given as goal

abbrev pub invariant-names : goal.invariant-names
invariant-names l = IsListed name is_comma take_token (names l.fn.input) (map named l.names.items) (vec_len l.names) (length l.fn.input.tokens) l.input

abbrev pub decreases-names : goal.decreases-names
decreases-names l = length l.input.tokens
