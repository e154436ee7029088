use Rattle.pb_model_run_laws.proofs.FreeLemmas.{not-free-is-without}
use Rattle.pb_model_run_laws.proofs.truth_hangs_on_free_variables.Goals as goal

pub returns : goal.returns
returns c = record { without = not-free-is-without }
