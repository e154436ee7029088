use Rattle.pb_model_runs.proofs.Told.{every-step-is-called, no-call-means-no-step}
use Rattle.pb_model_runs.proofs.every_step_is_called.Goals as goal

pub returns : goal.returns
returns c = record { calls = every-step-is-called; no_call = no-call-means-no-step }
