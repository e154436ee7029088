use Rattle.pb_protocol_tree.specs.Form.{protocol_form}
use Rattle.pb_protocol_typing.specs.Faults.{protocol_faults}
use Rattle.pb_protocol_constants.proofs.Refusals.{typing-refused}
use Rattle.pb_protocol_constants.proofs.valued.check_alone.Goals as goal

pub returns-in-Err : goal.returns-in-Err
returns-in-Err c = typing-refused (protocol_faults (protocol_form c.args.protocol.now)) c.in-Err.error c.raise.result c.raise.ensures c.in-Err.ensures.fails
