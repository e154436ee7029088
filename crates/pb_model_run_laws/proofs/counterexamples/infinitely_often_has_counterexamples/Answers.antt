use Rattle.pb_model_run_laws.proofs.GivenUpLemmas.{true-never-ends, false-is-given-up, given-up-refutes}
use Rattle.pb_model_run_laws.proofs.counterexamples.infinitely_often_has_counterexamples.Goals as goal

pub returns : goal.returns
returns c = record { endless = true-never-ends; shown = false-is-given-up; refuted = given-up-refutes }
