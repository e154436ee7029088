use Rattle.pb_evidence.proofs.Strategies.{strategies_prove}
use Rattle.pb_evidence.proofs.proof_graphs.strategies_prove.Goals as goal

pub returns : goal.returns
returns c = strategies_prove
