use Rattle.pb_model_run_laws.proofs.PersistenceLemmas.{true-is-persistent}
use Rattle.pb_model_run_laws.proofs.persistence_on_infinite_runs.Goals as goal

pub returns : goal.returns
returns c = record { stays = true-is-persistent }
