use Rattle.pb_model_runs.proofs.InevitablyLemmas.{false-is-put-off, lassos-refute, true-is-bounded}
use Rattle.pb_model_runs.proofs.inevitably_is_a_bound.Goals as goal

pub returns : goal.returns
returns c = record { put_off = false-is-put-off; bounded = true-is-bounded; refuted = lassos-refute }
