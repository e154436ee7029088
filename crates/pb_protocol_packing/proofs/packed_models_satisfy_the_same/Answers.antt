use Rattle.pb_protocol_packing.proofs.Answer.{packed_models_satisfy_the_same}
use Rattle.pb_protocol_packing.proofs.packed_models_satisfy_the_same.Goals as goal

pub returns : goal.returns
returns c = packed_models_satisfy_the_same
