use Rattle.pb_typing_tree.proofs.EquationsFit.{equations-fit}
use Rattle.pb_typing_tree.proofs.laws.elaborated_equations_fit.Goals as goal

pub returns : goal.returns
returns c = equations-fit
