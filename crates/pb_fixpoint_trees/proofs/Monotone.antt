-- The truth of a tree is monotone in the environment. Environments are compared at one truth value b: where b is true
-- this is inclusion, where b is false the converse.
use Rattle.std.proofs.Common.{◌≡◌, ℕ, Bool, arith}
use Rattle.pb_fixpoint.specs.Solution.{Environment}
use Rattle.pb_fixpoint_trees.specs.declared.junction.Junction.{Junction}
use Rattle.pb_fixpoint_trees.specs.declared.junction.Junction.TheVariants.{Conjunction, Disjunction}
use Rattle.pb_fixpoint_trees.specs.Junctions.{joined}
use Rattle.pb_fixpoint_trees.specs.Tree.{Leaf, Yes, No, Cut, Call, Operands, End, LeafThen, BracketThen, Tree, Single, Root, leaf_truth, operands_truth, tree_truth}

-- where s is b, t is
abbrev pub Keeps : Bool → Environment ℕ → Environment ℕ → Type 0
Keeps b s t = (n : ℕ) → s n ≡ b → t n ≡ b

joined-keeps : (b : Bool) (c : Junction) (x y x' y' : Bool) → (x ≡ b → x' ≡ b) → (y ≡ b → y' ≡ b) → joined c x y ≡ b → joined c x' y' ≡ b
joined-keeps b Conjunction x y x' y' h k e = grind arith
joined-keeps b Disjunction x y x' y' h k e = grind arith

leaf-keeps : (b : Bool) (s t : Environment ℕ) → Keeps b s t → (l : Leaf) → leaf_truth s l ≡ b → leaf_truth t l ≡ b
leaf-keeps b s t h Yes e = e
leaf-keeps b s t h No e = e
leaf-keeps b s t h Cut e = e
leaf-keeps b s t h (Call n) e = h n e

operands-keep : (b : Bool) (s t : Environment ℕ) → Keeps b s t → (c : Junction) (f : Operands) → operands_truth s c f ≡ b → operands_truth t c f ≡ b
operands-keep b s t h c End e = e
operands-keep b s t h c (LeafThen l after) e =
    joined-keeps b c (leaf_truth s l) (operands_truth s c after) (leaf_truth t l) (operands_truth t c after)
    (leaf-keeps b s t h l) (operands-keep b s t h c after) e
operands-keep b s t h c (BracketThen d inside after) e =
    joined-keeps b c (operands_truth s d inside) (operands_truth s c after) (operands_truth t d inside) (operands_truth t c after)
    (operands-keep b s t h d inside) (operands-keep b s t h c after) e

pub tree_truth-keeps : (b : Bool) (s t : Environment ℕ) → Keeps b s t → (tree : Tree) → tree_truth s tree ≡ b → tree_truth t tree ≡ b
tree_truth-keeps b s t h (Single l) e = leaf-keeps b s t h l e
tree_truth-keeps b s t h (Root c f) e = operands-keep b s t h c f e
