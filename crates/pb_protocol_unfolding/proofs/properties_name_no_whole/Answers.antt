use Rattle.pb_protocol_unfolding.proofs.WholeSteps.{properties_name_no_whole}
use Rattle.pb_protocol_unfolding.proofs.properties_name_no_whole.Goals as goal

pub returns : goal.returns
returns c = properties_name_no_whole
