use Rattle.pb_model_run_laws.proofs.NeverLemmas.{false-never-has-run, true-never-has-none}
use Rattle.pb_model_run_laws.proofs.never_is_on_runs.Goals as goal

pub returns : goal.returns
returns c = record { by_a_run = false-never-has-run; none = true-never-has-none }
