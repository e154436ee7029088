use Rattle.pb_evidence.proofs.Choices.{strategies_choose}
use Rattle.pb_evidence.proofs.proof_graphs.strategies_choose.Goals as goal

pub returns : goal.returns
returns c = strategies_choose
