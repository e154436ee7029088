use Rattle.pb_model_fair_run_laws.proofs.FairRunsLemmas.{fair-lassos-go-on-fairly}
use Rattle.pb_model_fair_run_laws.proofs.PutOffFairlyLemmas.{false-never-comes-fairly, never-comes-fairly-refutes}
use Rattle.pb_model_fair_run_laws.proofs.weak_fairness_has_counterexamples.Goals as goal

pub returns : goal.returns
returns c = record {
  counterexample = false-never-comes-fairly c.long_runs_come_back.ensures c.truth_hangs_on_free_variables.ensures.without;
  refuted = never-comes-fairly-refutes c.truth_hangs_on_free_variables.ensures.without;
  endless = fair-lassos-go-on-fairly;
}
