use Rattle.pb_text_meaning.specs.Erase.{erase}
use Rattle.pb_typing.proofs.Accepted.{accepted-well-typed}
use Rattle.pb_normal.proofs.InitialPlace.{initial-there}
use Rattle.pb_normal.proofs.limits.initial_instances_are_there.Goals as goal

pub returns : goal.returns
returns c = record { well_typed = initial-there; accepted = λ text faultless. initial-there (erase text) (accepted-well-typed text faultless) }
