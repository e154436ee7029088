use Rattle.std.proofs.Common.{refl}
use Rattle.pb_model_meaning.proofs.worked_examples_of_a_lock.Goals as goal

pub returns : goal.returns
returns c = record { mutual_exclusion = refl; no_deadlock = refl; can_always_enter = refl; always_enters = refl }
