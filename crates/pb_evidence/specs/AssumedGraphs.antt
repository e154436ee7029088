-- Proof graphs where the trees of some instances are not known: who gives each of those the tree of
-- one leaf that hasn't the value finds proof graphs that hold whichever trees they have.
use Rattle.std.specs.Prelude.{◌≡◌, ◌⊎◌, ℕ, Bool, true, false, not, List, Contains}
use Rattle.pb_fixpoint_trees.specs.Tree.{Tree, Yes, No, Single}
use Rattle.pb_fixpoint_trees.specs.Equations.{Signature}
use Rattle.pb_evidence.specs.ProofGraphs.{Graph, IsProofGraph}
use Rattle.pb_evidence.specs.Supports.{RestsOnChoices}

-- the tree of one leaf with this truth value
abbrev pub leaf_tree : Bool → Tree
leaf_tree true = Single Yes
leaf_tree false = Single No

-- the assumed tree is the instance's own, or the leaf that hasn't the value b
abbrev pub IsAssumed : (ℕ → Tree) → (ℕ → Tree) → Bool → ℕ → Type 0
IsAssumed trees assumed b n = (assumed n ≡ trees n) ⊎ (assumed n ≡ leaf_tree (not b))

-- each instance of the graph has an assumed tree
abbrev pub AreAssumed : (ℕ → Tree) → (ℕ → Tree) → Bool → Graph → Type 0
AreAssumed trees assumed b graph =
    (n : ℕ) → Contains graph.instances n → IsAssumed trees assumed b n

-- a proof graph over trees that are assumed so is one over the instances' own
abbrev pub AssumedGraphsProve : Type 0
AssumedGraphsProve =
    (signatures : List Signature) (trees assumed : ℕ → Tree) (b : Bool) (graph : Graph) →
    IsProofGraph signatures assumed b graph → AreAssumed trees assumed b graph
    → IsProofGraph signatures trees b graph

-- where its instances rest on choices through the assumed trees, they do through their own
abbrev pub AssumedChoicesHold : Type 0
AssumedChoicesHold =
    (trees assumed : ℕ → Tree) (b : Bool) (graph : Graph) →
    RestsOnChoices assumed b graph → AreAssumed trees assumed b graph
    → RestsOnChoices trees b graph
