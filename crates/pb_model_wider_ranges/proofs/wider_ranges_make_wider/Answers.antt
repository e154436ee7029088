use Rattle.pb_model_wider_ranges.proofs.Ranges.{wider}
use Rattle.pb_model_wider_ranges.proofs.wider_ranges_make_wider.Goals as goal

pub returns : goal.returns
returns c = wider
