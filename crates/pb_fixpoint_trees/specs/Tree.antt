-- And/or trees of the instances of predicate variables, and their truth under an environment: the
-- right side of an equation at one instance, with all data evaluated (Groote and Willemse 2005). An
-- instance is named by its number.
use Rattle.std.specs.Prelude.{ℕ, Bool, true, false}
use Rattle.pb_fixpoint.specs.Solution.{Environment}
use Rattle.pb_fixpoint_trees.specs.declared.junction.Junction.{Junction}
use Rattle.pb_fixpoint_trees.specs.Junctions.{joined, neutral}

-- Yes is true and No is false. Cut is a call with an argument outside its parameter's carrier,
-- which counts as false. Call is true where its instance is in the environment.
pub data Leaf : Type 0 where
  Yes : Leaf
  No : Leaf
  Cut : Leaf
  Call : (instance : ℕ) → Leaf

-- the operands of a bracket, in order: leaves, and brackets within it
pub data Operands : Type 0 where
  End : Operands
  LeafThen : (leaf : Leaf) → (after : Operands) → Operands
  BracketThen : (junction : Junction) → (inside : Operands) → (after : Operands) → Operands

-- a leaf alone, or a bracket around all
pub data Tree : Type 0 where
  Single : (leaf : Leaf) → Tree
  Root : (junction : Junction) → (operands : Operands) → Tree

abbrev pub leaf_truth : Environment ℕ → Leaf → Bool
leaf_truth t Yes = true
leaf_truth t No = false
leaf_truth t Cut = false
leaf_truth t (Call n) = t n

abbrev pub operands_truth : Environment ℕ → Junction → Operands → Bool
operands_truth t c End = neutral c
operands_truth t c (LeafThen leaf after) = joined c (leaf_truth t leaf) (operands_truth t c after)
operands_truth t c (BracketThen d inside after) =
    joined c (operands_truth t d inside) (operands_truth t c after)

abbrev pub tree_truth : Environment ℕ → Tree → Bool
tree_truth t (Single leaf) = leaf_truth t leaf
tree_truth t (Root c operands) = operands_truth t c operands

-- P holds of each instance that is called
abbrev pub LeafCalls : (ℕ → Type 0) → Leaf → Type 0
LeafCalls P Yes = Unit {0}
LeafCalls P No = Unit {0}
LeafCalls P Cut = Unit {0}
LeafCalls P (Call n) = P n

abbrev pub OperandsCall : (ℕ → Type 0) → Operands → Type 0
OperandsCall P End = Unit {0}
OperandsCall P (LeafThen leaf after) = LeafCalls P leaf × OperandsCall P after
OperandsCall P (BracketThen c inside after) = OperandsCall P inside × OperandsCall P after

abbrev pub TreeCalls : (ℕ → Type 0) → Tree → Type 0
TreeCalls P (Single leaf) = LeafCalls P leaf
TreeCalls P (Root c operands) = OperandsCall P operands
