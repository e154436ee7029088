use Rattle.pb_model_run_laws.proofs.ReactivityLemmas.{true-is-reactive}
use Rattle.pb_model_run_laws.proofs.reactivity_on_infinite_runs.Goals as goal

pub returns : goal.returns
returns c = record { reacts = true-is-reactive }
