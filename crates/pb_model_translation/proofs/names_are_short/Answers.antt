use Rattle.pb_model_translation.proofs.Short.{names_are_short}
use Rattle.pb_model_translation.proofs.names_are_short.Goals as goal

pub returns : goal.returns
returns c = names_are_short
