use Rattle.pb_model_invariants.proofs.Law.{joint_invariants_hold}
use Rattle.pb_model_invariants.proofs.laws.joint_invariants_hold.Goals as goal

pub returns : goal.returns
returns c = joint_invariants_hold
