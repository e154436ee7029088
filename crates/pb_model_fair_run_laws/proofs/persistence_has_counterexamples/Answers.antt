use Rattle.pb_model_fair_run_laws.proofs.UnsettledLemmas.{false-never-settles, never-settles-refutes}
use Rattle.pb_model_fair_run_laws.proofs.persistence_has_counterexamples.Goals as goal

pub returns : goal.returns
returns c = record {
  counterexample = false-never-settles c.long_runs_come_back.ensures c.truth_hangs_on_free_variables.ensures.without;
  refuted = never-settles-refutes c.truth_hangs_on_free_variables.ensures.without;
}
