use Rattle.pb_model_fair_run_laws.proofs.UnreactiveLemmas.{false-never-reacts, never-reacts-refutes}
use Rattle.pb_model_fair_run_laws.proofs.reactivity_has_counterexamples.Goals as goal

pub returns : goal.returns
returns c = record { counterexample = false-never-reacts c.long_runs_come_back.ensures; refuted = never-reacts-refutes }
