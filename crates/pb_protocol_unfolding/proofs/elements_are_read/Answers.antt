use Rattle.pb_protocol_unfolding.proofs.States.{elements_are_read}
use Rattle.pb_protocol_unfolding.proofs.elements_are_read.Goals as goal

pub returns : goal.returns
returns c = elements_are_read
