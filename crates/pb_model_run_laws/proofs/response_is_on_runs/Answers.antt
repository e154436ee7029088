use Rattle.pb_model_run_laws.proofs.ResponseLemmas.{false-is-unanswered, true-is-answered}
use Rattle.pb_model_run_laws.proofs.response_is_on_runs.Goals as goal

pub returns : goal.returns
returns c = record { unanswered = false-is-unanswered; answered = true-is-answered }
