use Rattle.pb_protocol_folding.proofs.PositiveCalls as laws
use Rattle.pb_protocol_folding.proofs.laws.folding_keeps_positive_calls.Goals as goal

pub returns : goal.returns
returns c = laws.folding_keeps_positive_calls
