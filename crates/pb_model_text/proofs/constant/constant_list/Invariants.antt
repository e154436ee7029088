use Rattle.std.proofs.Common.{length, map, vec_len}
use Rattle.pb_protocol_tree.specs.Form.{constant_form}
use Rattle.pb_text_lexer.specs.Steps.{take_token}
use Rattle.pb_text_terms.specs.Reading.{is_comma}
use Rattle.pb_text_terms.proofs.ListLemmas.{IsListed}
use Rattle.pb_model_text.specs.ModelReading.{constant, constant_list}
use Rattle.pb_model_text.proofs.constant.constant_list.Given as goal

abbrev pub invariant-constants : goal.invariant-constants
invariant-constants l = IsListed (constant 64) is_comma take_token (constant_list 64 l.fn.input) (map constant_form l.constants.items) (vec_len l.constants) (length l.fn.input.tokens) l.input

abbrev pub decreases-constants : goal.decreases-constants
decreases-constants l = length l.input.tokens
