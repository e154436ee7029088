use Rattle.std.proofs.Common.{length, map, vec_len}
use Rattle.pb_protocol_tree.specs.Form.{state_variables_form}
use Rattle.pb_text_lexer.specs.Steps.{take_token}
use Rattle.pb_text_terms.specs.Reading.{is_comma}
use Rattle.pb_text_terms.proofs.ListLemmas.{IsListed}
use Rattle.pb_model_text.specs.ModelReading.{state_group, state_groups}
use Rattle.pb_model_text.proofs.state.state_variables.Given as goal

abbrev pub invariant-groups : goal.invariant-groups
invariant-groups l = IsListed (state_group 64) is_comma take_token (state_groups 64 l.fn.input) (map state_variables_form l.variables.items) (vec_len l.variables) (length l.fn.input.tokens) l.input

abbrev pub decreases-groups : goal.decreases-groups
decreases-groups l = length l.input.tokens
