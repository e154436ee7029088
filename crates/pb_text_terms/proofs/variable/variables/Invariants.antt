use Rattle.std.proofs.Common.{length, map, vec_len}
use Rattle.pb_text_tree.specs.Form.{variables_form}
use Rattle.pb_text_lexer.specs.Steps.{take_token}
use Rattle.pb_text_terms.specs.Reading.{group, groups, is_comma}
use Rattle.pb_text_terms.proofs.ListLemmas.{IsListed}
use Rattle.pb_text_terms.proofs.variable.variables.Given as goal

abbrev pub invariant-groups : goal.invariant-groups
invariant-groups l = IsListed group is_comma take_token (groups l.fn.input) (map variables_form l.variables.items) (vec_len l.variables) (length l.fn.input.tokens) l.input

abbrev pub decreases-groups : goal.decreases-groups
decreases-groups l = length l.input.tokens
