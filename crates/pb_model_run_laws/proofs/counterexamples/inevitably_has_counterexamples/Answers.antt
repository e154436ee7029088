use Rattle.pb_model_run_laws.proofs.CounterexampleLemmas.{false-never-comes, never-comes-refutes}
use Rattle.pb_model_run_laws.proofs.counterexamples.inevitably_has_counterexamples.Goals as goal

pub returns : goal.returns
returns c = record { shown = false-never-comes; refuted = never-comes-refutes }
