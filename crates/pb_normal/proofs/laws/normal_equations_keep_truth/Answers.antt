use Rattle.pb_text_meaning.specs.Erase.{erase}
use Rattle.pb_typing.proofs.Accepted.{accepted-well-typed}
use Rattle.pb_normal.proofs.Equations.{equations-keep-truth}
use Rattle.pb_normal.proofs.laws.normal_equations_keep_truth.Goals as goal

pub returns : goal.returns
returns c = record {
  well_typed = equations-keep-truth;
  accepted = λ text faultless. equations-keep-truth (erase text) (accepted-well-typed text faultless);
}
