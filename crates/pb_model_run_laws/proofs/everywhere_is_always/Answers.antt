use Rattle.pb_model_run_laws.proofs.EverywhereLemmas.{everywhere-is-always, false-is-out-of-reach, true-is-within-reach}
use Rattle.pb_model_run_laws.proofs.everywhere_is_always.Goals as goal

pub returns : goal.returns
returns c = record { same = everywhere-is-always; out_of_reach = false-is-out-of-reach; within_reach = true-is-within-reach }
