use Rattle.std.proofs.Common.{ap}
use Rattle.std.specs.Prelude.{flat_map, option_copied}
use Rattle.pb_text_tree.specs.Form.{spec_form}
use Rattle.pb_typing_declarations.specs.View.{text_of}
use Rattle.pb_protocol_tree.specs.Form.{protocol_form, state_variables_form}
use Rattle.pb_model_sizes.proofs.Refused.{rules_broken}
use Rattle.pb_model_sizes.proofs.Sorts.{declared-broken, state-broken}
use Rattle.pb_model_sizes.proofs.sizes.lines_over.Goals as goal

pub returns-in-Err-clause-refused : goal.returns-in-Err-clause-refused
returns-in-Err-clause-refused c =
    let text = protocol_form c.args.protocol.now in
    rules_broken (option_copied c.args.name) text c.in-Err.error c.raise.result c.raise.ensures
    (declared-broken text (spec_form c.args.text.now) c.in-Err.error c.requires.data c.in-Err.ensures.checked)

pub returns-in-Err-check_sorts-clause-refused : goal.returns-in-Err-check_sorts-clause-refused
returns-in-Err-check_sorts-clause-refused c =
    let text = protocol_form c.args.protocol.now in
    let error = c.in-Err-check_sorts.error in
    rules_broken (option_copied c.args.name) text error c.raise-in-Err-check_sorts.result c.raise-in-Err-check_sorts.ensures
    (state-broken text (text_of c.in-Ok.declarations) (spec_form c.args.text.now) (flat_map state_variables_form c.deref.result.now) error c.in-Ok.ensures.text c.requires.data
    (ap (flat_map state_variables_form) c.deref.ensures.value) c.in-Err-check_sorts.ensures)
