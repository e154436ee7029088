use Rattle.std.specs.Prelude.{option_copied}
use Rattle.pb_protocol_tree.specs.Form.{protocol_form}
use Rattle.pb_model_sizes.proofs.Refused.{named, not_named, sized, some-copied, unread, unsized}
use Rattle.pb_model_sizes.proofs.sizes.sizes_of.Goals as goal

pub returns-clause-lines : goal.returns-clause-lines
returns-clause-lines c =
    sized (option_copied c.args.name) c.args.bytes.now (protocol_form c.in_ok-protocol.protocol) c.in_ok-protocol.ensures.said
    c.lines_for-lines.result c.lines_for-lines.ensures.faultless c.lines_for-lines.ensures.lines

pub returns-clause-refused : goal.returns-clause-refused
returns-clause-refused c =
    unsized (option_copied c.args.name) c.args.bytes.now (protocol_form c.in_ok-protocol.protocol) c.in_ok-protocol.ensures.said
    c.lines_for-lines.result c.lines_for-lines.ensures.refused

pub returns-clause-named : goal.returns-clause-named
returns-clause-named c is =
    some-copied _ c.args.name
    (named (option_copied c.args.name) c.args.bytes.now (protocol_form c.in_ok-protocol.protocol) c.in_ok-protocol.ensures.said
    c.lines_for-lines.result c.lines_for-lines.ensures.refused is)

pub returns-in_err-protocol-clause-refused : goal.returns-in_err-protocol-clause-refused
returns-in_err-protocol-clause-refused c =
    unread (option_copied c.args.name) c.args.bytes.now c.in_err-protocol.field-0.0 c.from_residual.result c.in_err-protocol.ensures.unread c.from_residual.ensures.1

pub returns-in_err-protocol-clause-named : goal.returns-in_err-protocol-clause-named
returns-in_err-protocol-clause-named c is =
    some-copied _ c.args.name
    (not_named (option_copied c.args.name) c.args.bytes.now c.in_err-protocol.field-0.0 c.from_residual.result c.in_err-protocol.ensures.unread c.from_residual.ensures.1 is)
