use Rattle.pb_model_run_laws.proofs.EndlessLassosLemmas.{lassos-are-infinite-runs, lassos-refute-infinitely-often}
use Rattle.pb_model_run_laws.proofs.lassos_never_end.Goals as goal

pub returns : goal.returns
returns c = record { runs = lassos-are-infinite-runs; refuted = lassos-refute-infinitely-often }
