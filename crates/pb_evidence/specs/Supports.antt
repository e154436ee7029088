-- What a tree's truth value rests on: the calls that a choice through the tree names.
--
-- A disjunction is true by one of its operands, which is chosen, and false by all of them together.
-- A conjunction is false by one, and true by all. What isn't chosen is left out, so that a support
-- has no call to which its choice doesn't come.
use Rattle.std.specs.Prelude.{◌≡◌, ◌⊎◌, ◌↔◌, ℕ, Bool, true, false, List, [], ◌∷◌, ◌++◌, Contains}
use Rattle.pb_fixpoint_trees.specs.declared.junction.Junction.{Junction}
use Rattle.pb_fixpoint_trees.specs.declared.junction.Junction.TheVariants.{Conjunction, Disjunction}
use Rattle.pb_fixpoint_trees.specs.Junctions.{neutral}
use Rattle.pb_fixpoint_trees.specs.Tree.{tree_truth}
use Rattle.pb_fixpoint_trees.specs.Tree.{Leaf, Yes, No, Cut, Call, Operands, End, LeafThen, BracketThen}
use Rattle.pb_fixpoint_trees.specs.Tree.{Tree, Single, Root}
use Rattle.pb_evidence.specs.ProofGraphs.{Graph, exactly}

-- a call has the value by itself; the other leaves have theirs by no call
abbrev pub IsLeafSupport : Bool → Leaf → List ℕ → Type 0
IsLeafSupport b Yes calls = (b ≡ true) × (calls ≡ [])
IsLeafSupport b No calls = (b ≡ false) × (calls ≡ [])
IsLeafSupport b Cut calls = (b ≡ false) × (calls ≡ [])
IsLeafSupport b (Call n) calls = calls ≡ n ∷ []

-- calls that the one choice names or the other
abbrev pub IsOfOne : (List ℕ → Type 0) → (List ℕ → Type 0) → List ℕ → Type 0
IsOfOne One Other calls = One calls ⊎ Other calls

-- calls that the one choice names, and then those that the other does
abbrev pub IsOfBoth : (List ℕ → Type 0) → (List ℕ → Type 0) → List ℕ → Type 0
IsOfBoth One Other calls =
    (xs : List ℕ) × (ys : List ℕ) × One xs × Other ys × (calls ≡ xs ++ ys)

-- what joins the supports of an operand and of those behind it
abbrev pub IsJoined :
    Bool → Junction → (List ℕ → Type 0) → (List ℕ → Type 0) → List ℕ → Type 0
IsJoined true Disjunction One Other calls = IsOfOne One Other calls
IsJoined false Conjunction One Other calls = IsOfOne One Other calls
IsJoined true Conjunction One Other calls = IsOfBoth One Other calls
IsJoined false Disjunction One Other calls = IsOfBoth One Other calls

abbrev pub IsOperandsSupport : Bool → Junction → Operands → List ℕ → Type 0
IsOperandsSupport b c End calls = (neutral c ≡ b) × (calls ≡ [])
IsOperandsSupport b c (LeafThen leaf after) calls =
    IsJoined b c (IsLeafSupport b leaf) (IsOperandsSupport b c after) calls
IsOperandsSupport b c (BracketThen d inside after) calls =
    IsJoined b c (IsOperandsSupport b d inside) (IsOperandsSupport b c after) calls

-- some choice through the tree, by which it has the value b, names these calls one after another
abbrev pub IsTreeSupport : Bool → Tree → List ℕ → Type 0
IsTreeSupport b (Single leaf) calls = IsLeafSupport b leaf calls
IsTreeSupport b (Root c operands) calls = IsOperandsSupport b c operands calls

-- the lists have the same elements
abbrev pub HaveSame : List ℕ → List ℕ → Type 0
HaveSame xs ys = (x : ℕ) → Contains xs x ↔ Contains ys x

-- these are just the calls that some choice through the tree names, in whatever order
abbrev pub IsSupport : Bool → Tree → List ℕ → Type 0
IsSupport b tree calls = (named : List ℕ) × IsTreeSupport b tree named × HaveSame named calls

-- each instance of the graph rests on what one choice through its tree names
abbrev pub RestsOnChoices : (ℕ → Tree) → Bool → Graph → Type 0
RestsOnChoices trees b graph =
    (n : ℕ) → Contains graph.instances n → IsSupport b (trees n) (graph.dependencies n)

-- a support is enough: where just its calls have the value, the tree has it
abbrev pub SupportsSuffice : Type 0
SupportsSuffice =
    (b : Bool) (tree : Tree) (calls : List ℕ) → IsSupport b tree calls
    → tree_truth (exactly b calls) tree ≡ b
