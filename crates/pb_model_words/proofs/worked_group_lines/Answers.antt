use Rattle.std.proofs.Common.{refl}
use Rattle.std.specs.Fmt.{digits}
use Rattle.pb_model_words.proofs.worked_group_lines.Goals as goal

pub returns : goal.returns
unfolding digits
returns c = record { enumerators = refl; numbers = refl; none = refl }
