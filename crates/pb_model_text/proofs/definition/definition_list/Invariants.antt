use Rattle.std.proofs.Common.{length, map, vec_len}
use Rattle.pb_protocol_tree.specs.Form.{definition_form}
use Rattle.pb_text_lexer.specs.Steps.{nothing_between}
use Rattle.pb_text_terms.proofs.ListLemmas.{IsListed}
use Rattle.pb_model_text.specs.ModelReading.{definition, definition_list}
use Rattle.pb_text_formulas.specs.Reading.{is_name_kind}
use Rattle.pb_model_text.proofs.definition.definition_list.Given as goal

abbrev pub invariant-definitions : goal.invariant-definitions
invariant-definitions l =
    IsListed (definition 64) is_name_kind nothing_between (definition_list 64 l.fn.input) (map definition_form l.definitions.items) (vec_len l.definitions) (length l.fn.input.tokens) l.input

abbrev pub decreases-definitions : goal.decreases-definitions
decreases-definitions l = length l.input.tokens
