use Rattle.pb_text_meaning.specs.Erase.{erase}
use Rattle.pb_typing.proofs.Accepted.{accepted-well-typed}
use Rattle.pb_normal.proofs.Structs.{structs-few}
use Rattle.pb_normal.proofs.limits.structs_are_few.Goals as goal

pub returns : goal.returns
returns c = record {
  well_typed = λ spec h. structs-few spec h.declarations;
  accepted = λ text faultless. structs-few (erase text) (accepted-well-typed text faultless).declarations;
}
