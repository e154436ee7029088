use Rattle.std.proofs.Common.{refl}
use Rattle.pb_model_meaning.proofs.worked_examples_of_fixpoints.Goals as goal

pub returns : goal.returns
returns c = record { carriers_alone = refl }
