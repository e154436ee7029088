use Rattle.std.proofs.Common.{length, map, vec_len}
use Rattle.pb_text_tree.specs.Form.{enumerator_form}
use Rattle.pb_text_lexer.specs.Steps.{take_token}
use Rattle.pb_text_terms.proofs.ListLemmas.{IsListed}
use Rattle.pb_text_formulas.specs.Reading.{enumerator, enumerators, is_bar}
use Rattle.pb_text_formulas.proofs.sort.enumerators.Given as goal

abbrev pub invariant-enumerators : goal.invariant-enumerators
invariant-enumerators l = IsListed enumerator is_bar take_token (enumerators l.fn.input) (map enumerator_form l.enumerators.items) (vec_len l.enumerators) (length l.fn.input.tokens) l.input

abbrev pub decreases-enumerators : goal.decreases-enumerators
decreases-enumerators l = length l.input.tokens
