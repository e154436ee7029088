use Rattle.pb_text_meaning.specs.Erase.{erase}
use Rattle.pb_typing.proofs.Accepted.{accepted-well-typed}
use Rattle.pb_normal.proofs.Kept.{equations-keep-shapes}
use Rattle.pb_normal.proofs.laws.kept_shapes_contain_values.Goals as goal

pub returns : goal.returns
returns c = record {
  well_typed = equations-keep-shapes;
  accepted = λ text faultless. equations-keep-shapes (erase text) (accepted-well-typed text faultless);
}
