use Rattle.pb_model_run_laws.proofs.WeakFairnessLemmas.{true-is-fairly-at-last}
use Rattle.pb_model_run_laws.proofs.weak_fairness_on_infinite_runs.Goals as goal

pub returns : goal.returns
returns c = record { comes = true-is-fairly-at-last }
