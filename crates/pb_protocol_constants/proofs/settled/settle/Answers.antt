use Rattle.pb_protocol_tree.specs.Form.{model_text_form}
use Rattle.pb_protocol_constants.proofs.Parts.{small-numbers}
use Rattle.pb_protocol_constants.proofs.settled.settle.Goals as goal

pub returns-in_ok-with_parts-in-Ok-clause-numbers : goal.returns-in_ok-with_parts-in-Ok-clause-numbers
returns-in_ok-with_parts-in-Ok-clause-numbers c = small-numbers (model_text_form c.args.text) c.in-Ok.ensures.rules
