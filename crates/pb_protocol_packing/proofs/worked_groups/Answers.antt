use Rattle.std.proofs.Common.{refl}
use Rattle.pb_text_meaning.specs.Functions.{named_function}
use Rattle.pb_protocol_packing.proofs.worked_groups.Goals as goal

pub returns : goal.returns
unfolding named_function
returns c = record { count = refl; first = refl; packed = refl; model = refl; wide = refl }
