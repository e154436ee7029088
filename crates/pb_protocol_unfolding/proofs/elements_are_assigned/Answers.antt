use Rattle.pb_protocol_unfolding.proofs.Assigned.{elements_are_assigned}
use Rattle.pb_protocol_unfolding.proofs.elements_are_assigned.Goals as goal

pub returns : goal.returns
returns c = elements_are_assigned
