use Rattle.pb_model_range_laws.proofs.Whole.{negations_decide}
use Rattle.pb_model_range_laws.proofs.negations_decide_without_cuts.Goals as goal

pub returns : goal.returns
returns c = negations_decide
