use Rattle.pb_protocol_tree.specs.Form.{protocol_form}
use Rattle.pb_protocol_typing.specs.Faults.{protocol_faults}
use Rattle.pb_protocol_typing.proofs.Whole.{on_accepted, on_broken, on_refused}
use Rattle.pb_protocol_typing.proofs.protocol.check_protocol.Goals as goal

pub returns-clause-accepted : goal.returns-clause-accepted
returns-clause-accepted c = on_accepted (protocol_faults (protocol_form c.args.protocol.now)) c.check_all.result c.check_all.ensures

pub returns-clause-fails : goal.returns-clause-fails
returns-clause-fails c = on_refused (protocol_faults (protocol_form c.args.protocol.now)) c.check_all.result c.check_all.ensures

pub returns-clause-ill_typed : goal.returns-clause-ill_typed
returns-clause-ill_typed c = on_broken (protocol_faults (protocol_form c.args.protocol.now)) c.check_all.result c.check_all.ensures
