use Rattle.pb_verifier_states.proofs.Hulls.{join_covers, join_least, join_none}
use Rattle.pb_verifier_states.proofs.laws.join_is_least.Goals as goal

pub returns : goal.returns
returns c = record { covers = join_covers; least = join_least; none = join_none }
