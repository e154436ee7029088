use Rattle.pb_typing_tree.proofs.Equations.{equations-keep-truth}
use Rattle.pb_typing_tree.proofs.laws.elaborated_equations_keep_truth.Goals as goal

pub returns : goal.returns
returns c = equations-keep-truth
