use Rattle.std.proofs.Common.{rules}
use Rattle.pb_text_tree.specs.Form.{spec_form}
use Rattle.pb_typing_declarations.specs.Faults.{IsAmong}
use Rattle.pb_typing_declarations.specs.View.{text_of}
use Rattle.pb_protocol_tree.specs.Form.{protocol_form}
use Rattle.pb_protocol_typing.specs.Faults.{protocol_faults}
use Rattle.pb_protocol_typing.proofs.Whole.{all_checks, declared_among}
use Rattle.pb_protocol_typing.proofs.protocol.check_all.Goals as goal

pub returns-in_err-declarations : goal.returns-in_err-declarations
returns-in_err-declarations c =
    let text = protocol_form c.args.protocol.now in
    let error = c.in_err-declarations.field-0.0 in
    let h : IsAmong (protocol_faults text) error = declared_among (spec_form c.in_ok-text.text) text error c.in_ok-text.ensures c.in_err-declarations.ensures.checked in
    search rules

pub returns : goal.returns
returns c =
    all_checks (spec_form c.in_ok-text.text) (text_of c.in_ok-declarations.declarations) (protocol_form c.args.protocol.now) c.check_own.result
    c.in_ok-text.ensures c.in_ok-declarations.ensures.text c.in_ok-declarations.ensures.checked c.check_own.ensures
