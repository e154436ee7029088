use Rattle.pb_protocol_unfolding.proofs.Successors.{steps_are_unfolded}
use Rattle.pb_protocol_unfolding.proofs.steps_are_unfolded.Goals as goal

pub returns : goal.returns
returns c = steps_are_unfolded
