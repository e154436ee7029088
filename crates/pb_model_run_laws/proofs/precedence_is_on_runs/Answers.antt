use Rattle.pb_model_run_laws.proofs.PrecedenceLemmas.{false-precedence-has-run, true-precedence-has-none}
use Rattle.pb_model_run_laws.proofs.precedence_is_on_runs.Goals as goal

pub returns : goal.returns
returns c = record { by_a_run = false-precedence-has-run; none = true-precedence-has-none }
