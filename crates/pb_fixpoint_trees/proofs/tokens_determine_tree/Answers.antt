use Rattle.pb_fixpoint_trees.proofs.OneTree.{tokens_are_one_tree}
use Rattle.pb_fixpoint_trees.proofs.tokens_determine_tree.Goals as goal

pub returns : goal.returns
returns c = tokens_are_one_tree
