use Rattle.pb_model_run_laws.proofs.AtLastLemmas.{false-at-last-is-avoided, true-at-last-is-bounded}
use Rattle.pb_model_run_laws.proofs.at_last_is_a_bound.Goals as goal

pub returns : goal.returns
returns c = record { avoided = false-at-last-is-avoided; bounded = true-at-last-is-bounded }
