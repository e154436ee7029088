-- A property's text that is refused refuses the protocol.
use Rattle.std.proofs.Common.{rules}
use Rattle.pb_base.specs.OrMemory.{IfFault}
use Rattle.pb_protocol_tree.specs.Form.{protocol_form}
use Rattle.pb_model_properties.specs.Refusals.{IsRefusedProtocol}
use Rattle.pb_model_properties.proofs.PassingTexts.{error-refuses}
use Rattle.pb_model_properties.proofs.read.solved.Goals as goal

pub returns-in_err-check_texts-clause-refused : goal.returns-in_err-check_texts-clause-refused
returns-in_err-check_texts-clause-refused c =
    let protocol = protocol_form c.args.protocol in
    let e = c.in_err-check_texts.field-0.0 in
    let h : IfFault e (IsRefusedProtocol protocol) =
    error-refuses protocol c.in_ok-solved.solved c.in_ok-solved.ensures.model e c.in_err-check_texts.ensures.refused in
    search rules
