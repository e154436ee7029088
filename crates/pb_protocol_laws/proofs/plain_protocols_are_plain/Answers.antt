use Rattle.pb_protocol_laws.proofs.PlainModels.{plain_protocols_are_plain}
use Rattle.pb_protocol_laws.proofs.plain_protocols_are_plain.Goals as goal

pub returns : goal.returns
returns c = plain_protocols_are_plain
