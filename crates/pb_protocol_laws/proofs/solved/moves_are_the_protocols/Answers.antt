use Rattle.pb_protocol_laws.proofs.Moves.{moves_are_the_protocols}
use Rattle.pb_protocol_laws.proofs.solved.moves_are_the_protocols.Goals as goal

pub returns : goal.returns
returns c = moves_are_the_protocols
