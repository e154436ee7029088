use Rattle.pb_model_run_laws.proofs.WeakUntilLemmas.{false-weak-until-has-run, true-weak-until-is-unbroken}
use Rattle.pb_model_run_laws.proofs.weak_until_is_on_runs.Goals as goal

pub returns : goal.returns
returns c = record { by_a_run = false-weak-until-has-run; unbroken = true-weak-until-is-unbroken }
