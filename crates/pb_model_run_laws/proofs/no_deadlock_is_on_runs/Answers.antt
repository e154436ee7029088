use Rattle.pb_model_run_laws.proofs.DeadlockLemmas.{false-has-deadlock, true-has-no-deadlock}
use Rattle.pb_model_run_laws.proofs.no_deadlock_is_on_runs.Goals as goal

pub returns : goal.returns
returns c = record { by_a_run = false-has-deadlock; none = true-has-no-deadlock }
