use Rattle.pb_model_wider_ranges.proofs.StaysTrue.{stays-true}
use Rattle.pb_model_wider_ranges.proofs.true_stays_true_in_wider_ranges.Goals as goal

pub returns : goal.returns
returns c = stays-true
