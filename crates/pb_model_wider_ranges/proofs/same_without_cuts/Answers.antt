use Rattle.pb_model_wider_ranges.proofs.WithoutCuts.{same-verdict}
use Rattle.pb_model_wider_ranges.proofs.same_without_cuts.Goals as goal

pub returns : goal.returns
returns c = same-verdict
