use Rattle.pb_model_run_laws.proofs.InfiniteRunsLemmas.{always-on-infinite-runs, inevitably-on-infinite-runs, until-on-infinite-runs}
use Rattle.pb_model_run_laws.proofs.infinite_runs_obey.Goals as goal

pub returns : goal.returns
returns c = record { always = always-on-infinite-runs; inevitably = inevitably-on-infinite-runs; until = until-on-infinite-runs }
