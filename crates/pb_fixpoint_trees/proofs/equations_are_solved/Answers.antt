use Rattle.pb_fixpoint_trees.proofs.Numbers.{equations_are_solved}
use Rattle.pb_fixpoint_trees.proofs.equations_are_solved.Goals as goal

pub returns : goal.returns
returns c = equations_are_solved
