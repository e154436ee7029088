use Rattle.pb_model_run_laws.proofs.NeverAnsweredLemmas.{false-never-followed, never-followed-refutes}
use Rattle.pb_model_run_laws.proofs.counterexamples.step_response_has_counterexamples.Goals as goal

pub returns : goal.returns
returns c = record { shown = false-never-followed; refuted = never-followed-refutes }
