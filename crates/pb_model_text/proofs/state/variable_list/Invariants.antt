use Rattle.std.proofs.Common.{length, map, vec_len}
use Rattle.pb_model_text.specs.Links.{indexed}
use Rattle.pb_text_lexer.specs.Steps.{take_token}
use Rattle.pb_text_terms.specs.Reading.{is_comma}
use Rattle.pb_text_terms.proofs.ListLemmas.{IsListed}
use Rattle.pb_model_text.specs.ModelReading.{indexed_name, indexed_names}
use Rattle.pb_model_text.proofs.state.variable_list.Given as goal

abbrev pub invariant-variables : goal.invariant-variables
invariant-variables l = IsListed (indexed_name 64) is_comma take_token (indexed_names 64 l.fn.input) (map indexed l.variables.items) (vec_len l.variables) (length l.fn.input.tokens) l.input

abbrev pub decreases-variables : goal.decreases-variables
decreases-variables l = length l.input.tokens
