use Rattle.pb_protocol_symmetry.proofs.ProtocolTest.{protocols-tested}
use Rattle.pb_protocol_symmetry.proofs.tested_protocols_are_symmetric.Goals as goal

pub returns : goal.returns
returns c = protocols-tested
