use Rattle.std.proofs.Common.{rules}
use Rattle.pb_typing_declarations.specs.View.{spec_of}
use Rattle.pb_protocol_tree.specs.Form.{protocol_form}
use Rattle.pb_protocol_typing.specs.View.{signatures_in}
use Rattle.pb_protocol_typing.proofs.Whole.{names_among, definitions_among, lists_among, own_checks}
use Rattle.pb_protocol_typing.proofs.protocol.check_own.Goals as goal

pub returns-in_err-check_names : goal.returns-in_err-check_names
returns-in_err-check_names c =
    let h = names_among (spec_of c.args.declarations.now) (protocol_form c.args.protocol.now) c.in_err-check_names.field-0.0 c.in_err-check_names.ensures in
    search rules

pub returns-in_err-known : goal.returns-in_err-known
returns-in_err-known c =
    let h = definitions_among (spec_of c.args.declarations.now) (protocol_form c.args.protocol.now) c.in_err-known.field-0.0 c.in_err-known.ensures in
    search rules

pub returns-in_err-check_lists : goal.returns-in_err-check_lists
returns-in_err-check_lists c =
    let h = lists_among (spec_of c.args.declarations.now) (protocol_form c.args.protocol.now) c.in_err-check_lists.field-0.0 (signatures_in c.in_ok-known.known)
    c.in_ok-known.ensures.1 c.in_err-check_lists.ensures in
    search rules

pub returns : goal.returns
returns c =
    own_checks (spec_of c.args.declarations.now) (protocol_form c.args.protocol.now) (signatures_in c.in_ok-known.known) c.check_parts.result c.in_ok-known.ensures.1
    c.in_ok-check_names.ensures c.in_ok-known.ensures.0 c.in_ok-check_lists.ensures c.check_parts.ensures
