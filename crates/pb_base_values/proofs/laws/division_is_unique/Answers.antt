use Rattle.pb_base_values.proofs.QuotientBounds.{unique}
use Rattle.pb_base_values.proofs.laws.division_is_unique.Goals as goal

pub returns : goal.returns
returns c = unique
