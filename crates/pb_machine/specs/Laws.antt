-- What the tokens of instances' trees, and the trees of a module, obey.
use Rattle.std.specs.Prelude.{◌≡◌, ℕ, ◌<◌, ◌↔◌, Bool, true, List, Contains}
use Rattle.pb_fixpoint_trees.specs.declared.Token.{Token}
use Rattle.pb_fixpoint_trees.specs.declared.Token.TheVariants as token
use Rattle.pb_fixpoint_trees.specs.Tree.{Tree, TreeCalls}
use Rattle.pb_fixpoint_trees.specs.Tokens.{tree_tokens}
use Rattle.pb_sorts.specs.Layout.{count_of}
use Rattle.pb_bytecode.specs.Contents.{Contents}
use Rattle.pb_bytecode.specs.Meaning.{AreTrees, answer, parameters}
use Rattle.pb_machine.specs.InstanceTree.{IsTreeAt}
use Rattle.pb_machine.specs.Reachable.{successors, tree_calls}

-- what has a tree is an instance
abbrev pub TreesAreOfInstances : Type 0
TreesAreOfInstances =
    (m : Contents) (n : ℕ) (tokens : List Token) → IsTreeAt m n tokens → n < count_of (parameters m)

-- a call in a tree is one of an instance
abbrev pub CallsAreInstances : Type 0
CallsAreInstances =
    (m : Contents) (n : ℕ) (tokens : List Token) → IsTreeAt m n tokens →
    (k : ℕ) → Contains tokens (token.Call k) → k < count_of (parameters m)

-- the tokens are those of the tree that the module means
abbrev pub TokensAreMeant : Type 0
TokensAreMeant =
    (m : Contents) (n : ℕ) (tokens : List Token) → IsTreeAt m n tokens →
    (trees : ℕ → Tree) → AreTrees m trees → tokens ≡ tree_tokens (trees n)

-- the calls in it are exactly the successors
abbrev pub CallsAreSuccessors : Type 0
CallsAreSuccessors =
    (m : Contents) (n : ℕ) (tokens : List Token) → IsTreeAt m n tokens →
    (trees : ℕ → Tree) → AreTrees m trees → (k : ℕ)
    → Contains tokens (token.Call k) ↔ Contains (successors trees n) k

-- what holds of a tree's calls holds of each number in the list of them, and the other way round
abbrev pub CallsAreListed : Type 0
CallsAreListed =
    (test : ℕ → Bool) (tree : Tree) →
    TreeCalls (λ k. test k ≡ true) tree ↔ ((k : ℕ) → Contains (tree_calls tree) k → test k ≡ true)

-- an instance has one tree in what the module means
abbrev pub TreesAreUnique : Type 0
TreesAreUnique =
    (m : Contents) (s t : ℕ → Tree) → AreTrees m s → AreTrees m t → (n : ℕ)
    → n < count_of (parameters m) → s n ≡ t n

-- a module has one answer
abbrev pub AnswerIsUnique : Type 0
AnswerIsUnique =
    (m : Contents) (s t : ℕ → Tree) → AreTrees m s → AreTrees m t → answer m s ≡ answer m t
