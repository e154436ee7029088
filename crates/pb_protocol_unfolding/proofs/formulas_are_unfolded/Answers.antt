use Rattle.pb_protocol_unfolding.proofs.Formulas.{formulas_are_unfolded, quantified_formulas_are_copies}
use Rattle.pb_protocol_unfolding.proofs.formulas_are_unfolded.Goals as goal

pub returns : goal.returns
returns c = record { formulas = formulas_are_unfolded; copies = quantified_formulas_are_copies }
