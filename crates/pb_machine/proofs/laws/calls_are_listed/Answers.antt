use Rattle.std.proofs.Common.{◌≡◌, true}
use Rattle.pb_fixpoint_trees.proofs.Members.{among_of_contains, contains_of_among}
use Rattle.pb_machine.specs.Reachable.{tree_calls}
use Rattle.pb_machine.proofs.TreeCalls.{each_tree, tree_each}
use Rattle.pb_machine.proofs.laws.calls_are_listed.Goals as goal

pub returns : goal.returns
returns c test tree = (
  λ calls k contains. tree_each (λ n. test n ≡ true) tree calls k (among_of_contains (tree_calls tree) k contains),
  λ each. each_tree (λ n. test n ≡ true) tree (λ k among. each k (contains_of_among (tree_calls tree) k among)),
)
