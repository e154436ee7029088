use Rattle.pb_model_run_laws.proofs.NeverAnsweredLemmas.{false-never-answered, never-answered-refutes}
use Rattle.pb_model_run_laws.proofs.counterexamples.response_has_counterexamples.Goals as goal

pub returns : goal.returns
returns c = record { shown = false-never-answered; refuted = never-answered-refutes }
