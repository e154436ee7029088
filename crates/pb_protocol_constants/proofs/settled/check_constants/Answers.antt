use Rattle.std.proofs.Common.{◌≡◌, [], inl}
use Rattle.std.specs.Prelude.{◌⊎◌}
use Rattle.pb_protocol_tree.specs.Form.{protocol_form}
use Rattle.pb_protocol_typing.specs.Faults.{protocol_faults}
use Rattle.pb_protocol_constants.specs.Faults.{IsTypingFaultIn}
use Rattle.pb_protocol_constants.specs.Hidden.{hidden_faults}
use Rattle.pb_protocol_constants.proofs.Refusals.{checked, handed-up}
use Rattle.pb_protocol_constants.proofs.settled.check_constants.Goals as goal

pub returns : goal.returns
returns c =
    let m = protocol_form c.args.constants.now in
    let names = hidden_faults m.definitions (protocol_form c.args.protocol.now) in
    checked (protocol_faults m ≡ []) (names ≡ []) (IsTypingFaultIn (protocol_faults m)) (IsTypingFaultIn names) c.check_hidden.result c.in_ok-check_alone.ensures
    (rw c.deref.ensures.value at c.check_hidden.ensures)

pub returns-in_err-check_alone : goal.returns-in_err-check_alone
returns-in_err-check_alone c =
    let m = protocol_form c.args.constants.now in
    let names = hidden_faults m.definitions (protocol_form c.args.protocol.now) in
    handed-up _ (IsTypingFaultIn (protocol_faults m)) (λ f. IsTypingFaultIn (protocol_faults m) f ⊎ IsTypingFaultIn names f) (λ f h. inl h)
    c.in_err-check_alone.field-0.0 c.from_residual.result c.in_err-check_alone.ensures c.from_residual.ensures.1
