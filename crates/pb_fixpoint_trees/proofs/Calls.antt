-- A tree whose calls have a property, and so a weaker one.
use Rattle.std.proofs.Common.{ℕ}
use Rattle.pb_fixpoint_trees.specs.Tree.{Leaf, Yes, No, Cut, Call, Operands, End, LeafThen, BracketThen, Tree, Single, Root, LeafCalls, OperandsCall, TreeCalls}

module _ (P Q : ℕ → Type 0) (weaker : (n : ℕ) → P n → Q n) where
  leaf_weaker : (l : Leaf) → LeafCalls P l → LeafCalls Q l
  leaf_weaker Yes h = tt
  leaf_weaker No h = tt
  leaf_weaker Cut h = tt
  leaf_weaker (Call n) h = weaker n h

  operands_weaker : (f : Operands) → OperandsCall P f → OperandsCall Q f
  operands_weaker End h = tt
  operands_weaker (LeafThen l after) h = (leaf_weaker l h.0, operands_weaker after h.1)
  operands_weaker (BracketThen c inside after) h = (operands_weaker inside h.0, operands_weaker after h.1)

  pub tree_weaker : (tree : Tree) → TreeCalls P tree → TreeCalls Q tree
  tree_weaker (Single l) h = leaf_weaker l h
  tree_weaker (Root c f) h = operands_weaker f h
