use Rattle.std.proofs.Common.{refl}
use Rattle.std.specs.Fmt.{digits}
use Rattle.pb_model_words.proofs.worked_groups.Goals as goal

pub returns : goal.returns
unfolding digits
returns c = record { state = refl; values = refl; step = refl; leaves = refl }
