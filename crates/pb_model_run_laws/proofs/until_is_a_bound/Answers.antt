use Rattle.pb_model_run_laws.proofs.UntilLemmas.{false-until-keeps-waiting, true-until-is-bounded, lassos-refute-until, inevitably-is-until}
use Rattle.pb_model_run_laws.proofs.until_is_a_bound.Goals as goal

pub returns : goal.returns
returns c = record { kept_waiting = false-until-keeps-waiting; bounded = true-until-is-bounded; refuted = lassos-refute-until; inevitably = inevitably-is-until }
