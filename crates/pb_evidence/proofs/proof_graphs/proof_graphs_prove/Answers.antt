use Rattle.pb_evidence.proofs.Proving.{proof_graphs_prove}
use Rattle.pb_evidence.proofs.proof_graphs.proof_graphs_prove.Goals as goal

pub returns : goal.returns
returns c = proof_graphs_prove
