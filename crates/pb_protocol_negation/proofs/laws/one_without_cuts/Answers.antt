use Rattle.pb_protocol_negation.proofs.OneWithoutCuts.{one_without_cuts}
use Rattle.pb_protocol_negation.proofs.laws.one_without_cuts.Goals as goal

pub returns : goal.returns
returns c = one_without_cuts
