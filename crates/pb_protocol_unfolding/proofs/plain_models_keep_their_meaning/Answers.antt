use Rattle.pb_protocol_unfolding.proofs.PlainModels.{plain_models_keep_their_meaning}
use Rattle.pb_protocol_unfolding.proofs.plain_models_keep_their_meaning.Goals as goal

pub returns : goal.returns
returns c = plain_models_keep_their_meaning
