use Rattle.std.proofs.Common.{true}
use Rattle.pb_fixpoint_trees.proofs.Monotone.{tree_truth-keeps}
use Rattle.pb_fixpoint_trees.proofs.truth_is_monotone.Goals as goal

pub returns : goal.returns
returns c = tree_truth-keeps true
