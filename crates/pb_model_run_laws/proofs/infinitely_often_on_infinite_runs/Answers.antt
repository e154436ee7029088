use Rattle.pb_model_run_laws.proofs.InfinitelyOftenLemmas.{true-is-infinitely-often, taken-infinitely-often}
use Rattle.pb_model_run_laws.proofs.infinitely_often_on_infinite_runs.Goals as goal

pub returns : goal.returns
returns c = record { again = true-is-infinitely-often; others = taken-infinitely-often }
