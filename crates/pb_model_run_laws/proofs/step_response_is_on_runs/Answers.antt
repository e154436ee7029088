use Rattle.pb_model_run_laws.proofs.StepResponseLemmas.{false-is-unfollowed, true-is-followed}
use Rattle.pb_model_run_laws.proofs.step_response_is_on_runs.Goals as goal

pub returns : goal.returns
returns c = record { unfollowed = false-is-unfollowed; followed = true-is-followed }
