use Rattle.pb_typing.proofs.Accepted.{accepted-well-typed}
use Rattle.pb_text_meaning.specs.Erase.{erase}
use Rattle.pb_assembler_scheme.proofs.TextEquations.{equations_accepted}
use Rattle.pb_assembler_scheme.proofs.acceptance.compiled_equations_are_accepted.Goals as goal

pub returns : goal.returns
returns c = record {
  well_typed = equations_accepted;
  accepted = λ text faultless. equations_accepted (erase text) (accepted-well-typed text faultless);
}
