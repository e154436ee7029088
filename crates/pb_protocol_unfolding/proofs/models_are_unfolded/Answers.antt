use Rattle.pb_protocol_unfolding.proofs.Models.{models_are_unfolded}
use Rattle.pb_protocol_unfolding.proofs.models_are_unfolded.Goals as goal

pub returns : goal.returns
returns c = models_are_unfolded
