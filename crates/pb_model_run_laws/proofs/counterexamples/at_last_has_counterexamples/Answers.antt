use Rattle.pb_model_run_laws.proofs.CounterexampleLemmas.{false-never-taken, never-taken-refutes}
use Rattle.pb_model_run_laws.proofs.counterexamples.at_last_has_counterexamples.Goals as goal

pub returns : goal.returns
returns c = record { shown = false-never-taken; refuted = never-taken-refutes }
