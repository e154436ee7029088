use Rattle.pb_protocol_symmetry.proofs.ProtocolTest.{steps-tested}
use Rattle.pb_protocol_symmetry.proofs.tested_steps_have_kinds.Goals as goal

pub returns : goal.returns
returns c = steps-tested
