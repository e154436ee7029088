use Rattle.pb_evidence.proofs.Signs.{priorities_support}
use Rattle.pb_evidence.proofs.proof_graphs.priorities_support.Goals as goal

pub returns : goal.returns
returns c = priorities_support
