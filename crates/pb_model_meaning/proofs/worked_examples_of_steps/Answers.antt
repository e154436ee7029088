use Rattle.std.proofs.Common.{refl}
use Rattle.pb_model_meaning.proofs.worked_examples_of_steps.Goals as goal

pub returns : goal.returns
returns c = record { at_once = refl; each_value = refl; outside_is_true = refl; outside_is_no_more = refl }
