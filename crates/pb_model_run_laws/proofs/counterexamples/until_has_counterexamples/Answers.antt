use Rattle.pb_model_run_laws.proofs.CounterexampleLemmas.{false-never-met, never-met-refutes}
use Rattle.pb_model_run_laws.proofs.counterexamples.until_has_counterexamples.Goals as goal

pub returns : goal.returns
returns c = record { shown = false-never-met; refuted = never-met-refutes }
