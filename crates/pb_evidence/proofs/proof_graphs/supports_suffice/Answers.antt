use Rattle.pb_evidence.proofs.Supports.{supports_suffice}
use Rattle.pb_evidence.proofs.proof_graphs.supports_suffice.Goals as goal

pub returns : goal.returns
returns c = supports_suffice
