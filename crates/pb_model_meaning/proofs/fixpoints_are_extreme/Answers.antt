use Rattle.pb_model_meaning.proofs.Fixpoints.{fixpoints_are_extreme}
use Rattle.pb_model_meaning.proofs.fixpoints_are_extreme.Goals as goal

pub returns : goal.returns
returns c = fixpoints_are_extreme
