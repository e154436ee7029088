-- Where a truth value rests on a cut call. A call with an argument outside the carrier of its
-- parameter counts as false; so an instance may be false for no other reason, and would be true if
-- the carrier were wide enough.
use Rattle.std.specs.Prelude.{ℕ, Bool, not, List, map}
use Rattle.std.specs.Bool.{beq}
use Rattle.pb_fixpoint_trees.specs.Tree.{Leaf, Yes, No, Cut, Call, Operands, End, LeafThen, BracketThen}
use Rattle.pb_fixpoint_trees.specs.Tree.{Tree, Single, Root, tree_truth}
use Rattle.pb_evidence.specs.ProofGraphs.{exactly}
use Rattle.pb_evidence.specs.declared.Evidence.{Evidence}
use Rattle.pb_evidence.specs.Evidence.{graph_of}

-- the tree with its cut calls true
abbrev pub uncut_leaf : Leaf → Leaf
uncut_leaf Yes = Yes
uncut_leaf No = No
uncut_leaf Cut = Yes
uncut_leaf (Call n) = Call n

abbrev pub uncut_operands : Operands → Operands
uncut_operands End = End
uncut_operands (LeafThen leaf after) = LeafThen (uncut_leaf leaf) (uncut_operands after)
uncut_operands (BracketThen c inside after) =
    BracketThen c (uncut_operands inside) (uncut_operands after)

abbrev pub uncut : Tree → Tree
uncut (Single leaf) = Single (uncut_leaf leaf)
uncut (Root c operands) = Root c (uncut_operands operands)

-- where just these instances have the value b, a tree with cut calls that are true hasn't it
abbrev pub rests_on_cut : Bool → List ℕ → Tree → Bool
rests_on_cut b named tree = not (beq b (tree_truth (exactly b named) (uncut tree)))

-- whether an instance of the evidence rests on a cut call
abbrev pub is_cut : (ℕ → Tree) → Evidence → ℕ → Bool
is_cut trees e n = rests_on_cut e.truth ((graph_of e).dependencies n) (trees n)

-- that of each instance in turn
abbrev pub cuts_of : (ℕ → Tree) → Evidence → List Bool
cuts_of trees e = map (is_cut trees e) e.instances.items
