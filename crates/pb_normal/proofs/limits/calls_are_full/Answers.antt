use Rattle.pb_text_meaning.specs.Erase.{erase}
use Rattle.pb_typing.proofs.Accepted.{accepted-well-typed}
use Rattle.pb_normal.proofs.Calls.{equations-full}
use Rattle.pb_normal.proofs.limits.calls_are_full.Goals as goal

pub returns : goal.returns
returns c = record { well_typed = equations-full; accepted = λ text faultless. equations-full (erase text) (accepted-well-typed text faultless) }
