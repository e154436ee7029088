use Rattle.pb_text_meaning.specs.Erase.{erase}
use Rattle.pb_typing.proofs.Accepted.{accepted-well-typed}
use Rattle.pb_normal.proofs.Structs.{shapes-declared}
use Rattle.pb_normal.proofs.limits.shapes_are_declared.Goals as goal

pub returns : goal.returns
returns c = record { well_typed = shapes-declared; accepted = λ text faultless. shapes-declared (erase text) (accepted-well-typed text faultless) }
