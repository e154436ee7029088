use Rattle.pb_model_run_laws.proofs.ComesBackLemmas.{long-runs-come-back}
use Rattle.pb_model_run_laws.proofs.counterexamples.long_runs_come_back.Goals as goal

pub returns : goal.returns
returns c = long-runs-come-back
