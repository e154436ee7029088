use Rattle.pb_protocol_laws.proofs.SettledWords.{settled-writable}
use Rattle.pb_protocol_laws.proofs.spelling.settled_protocols_are_writable.Goals as goal

pub returns : goal.returns
returns c = settled-writable
