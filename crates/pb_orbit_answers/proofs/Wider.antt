-- Trees that are related to trees by a relation are so by each that holds where it does.
use Rattle.std.proofs.Common.{ℕ}
use Rattle.pb_fixpoint_trees.specs.Tree.{Leaf, Yes, No, Cut, Call, Operands, Tree}
use Rattle.pb_fixpoint_symmetry.specs.Trees.{LeavesMatch, OperandsMatch, Ends, Leaves, Brackets, TreesMatch, Singles, Roots}

module _ (R Q : ℕ → ℕ → Type 0) (wider : (n k : ℕ) → R n k → Q n k) where
  leaves-wider : (l k : Leaf) → LeavesMatch R l k → LeavesMatch Q l k
  leaves-wider (Call n) (Call k) m = wider n k m
  leaves-wider (Call n) Yes m = absurd m
  leaves-wider (Call n) No m = absurd m
  leaves-wider (Call n) Cut m = absurd m
  leaves-wider Yes k m = m
  leaves-wider No k m = m
  leaves-wider Cut k m = m

  operands-wider : (x y : Operands) → OperandsMatch R x y → OperandsMatch Q x y
  operands-wider _ _ Ends = Ends
  operands-wider _ _ (Leaves l k after following m rest) = Leaves l k after following (leaves-wider l k m) (operands-wider after following rest)
  operands-wider _ _ (Brackets c inside within after following m rest) =
      Brackets c inside within after following (operands-wider inside within m) (operands-wider after following rest)

  pub trees-wider : (x y : Tree) → TreesMatch R x y → TreesMatch Q x y
  trees-wider _ _ (Singles l k m) = Singles l k (leaves-wider l k m)
  trees-wider _ _ (Roots c x y m) = Roots c x y (operands-wider x y m)
