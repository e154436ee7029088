use Rattle.pb_protocol_laws.proofs.Positive.{calls_are_positive}
use Rattle.pb_protocol_laws.proofs.calls_are_positive.Goals as goal

pub returns : goal.returns
returns c = calls_are_positive
