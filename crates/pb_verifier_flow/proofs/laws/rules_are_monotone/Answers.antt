use Rattle.pb_verifier_flow.proofs.Covered.{flow_covered}
use Rattle.pb_verifier_flow.proofs.laws.rules_are_monotone.Goals as goal

pub returns : goal.returns
returns c = flow_covered
