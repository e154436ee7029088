use Rattle.pb_text_meaning.specs.Erase.{erase}
use Rattle.pb_typing.proofs.Accepted.{accepted-well-typed}
use Rattle.pb_normal.proofs.SmallForms.{equations-small}
use Rattle.pb_normal.proofs.limits.normal_forms_are_small.Goals as goal

pub returns : goal.returns
returns c = record { well_typed = equations-small; accepted = λ text faultless. equations-small (erase text) (accepted-well-typed text faultless) }
