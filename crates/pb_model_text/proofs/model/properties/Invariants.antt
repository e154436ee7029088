use Rattle.std.proofs.Common.{length, map, vec_len}
use Rattle.pb_protocol_tree.specs.Form.{property_form}
use Rattle.pb_text_lexer.specs.Steps.{nothing_between}
use Rattle.pb_text_terms.proofs.ListLemmas.{IsListed}
use Rattle.pb_model_text.specs.Reading.{is_property}
use Rattle.pb_model_text.specs.ModelReading.{properties, property}
use Rattle.pb_model_text.proofs.model.properties.Given as goal

abbrev pub invariant-properties : goal.invariant-properties
invariant-properties l = IsListed (property 64) is_property nothing_between (properties 64 l.fn.input) (map property_form l.properties.items) (vec_len l.properties) (length l.fn.input.tokens) l.input

abbrev pub decreases-properties : goal.decreases-properties
decreases-properties l = length l.input.tokens
