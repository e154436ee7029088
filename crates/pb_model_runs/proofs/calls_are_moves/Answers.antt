use Rattle.pb_model_runs.proofs.Told.{calls-are-moves}
use Rattle.pb_model_runs.proofs.ExactLemmas.{tells-just-the-step}
use Rattle.pb_model_runs.proofs.calls_are_moves.Goals as goal

pub returns : goal.returns
returns c = record { calls = calls-are-moves; exactly = tells-just-the-step }
