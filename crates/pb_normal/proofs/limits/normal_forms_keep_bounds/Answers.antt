use Rattle.pb_text_meaning.specs.Erase.{erase}
use Rattle.pb_typing.proofs.Accepted.{accepted-well-typed}
use Rattle.pb_normal.proofs.Bounds.{equations-bounded}
use Rattle.pb_normal.proofs.limits.normal_forms_keep_bounds.Goals as goal

pub returns : goal.returns
returns c = record { well_typed = equations-bounded; accepted = λ text faultless. equations-bounded (erase text) (accepted-well-typed text faultless) }
