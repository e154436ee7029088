-- Small trees and systems, with what they come to.
use Rattle.std.specs.Prelude.{◌≡◌, ℕ, zero, suc, true, false, List, [], ◌∷◌}
use Rattle.pb_fixpoint.specs.declared.Sign.TheVariants.{Mu, Nu}
use Rattle.pb_fixpoint.specs.Solution.{empty, full}
use Rattle.pb_fixpoint_trees.specs.declared.Token.TheVariants as token
use Rattle.pb_fixpoint_trees.specs.declared.junction.Junction.TheVariants.{Conjunction, Disjunction}
use Rattle.pb_fixpoint_trees.specs.Tree.{No, Cut, Call, End, LeafThen, BracketThen, Tree, Single, Root, tree_truth}
use Rattle.pb_fixpoint_trees.specs.Tokens.{tree_tokens}
use Rattle.pb_fixpoint_trees.specs.Equations.{Signature, solved}

-- an empty conjunction is true, an empty disjunction false
pub record EmptyBrackets : Type 0 where
  pub conjunction : tree_truth empty (Root Conjunction End) ≡ true
  pub disjunction : tree_truth full (Root Disjunction End) ≡ false

-- X0 && (false || X1 || cut): its tokens, and its truth where all instances are true and where none
-- is
abbrev pub nested_tree : Tree
nested_tree =
    Root Conjunction
    (LeafThen (Call 0)
    (BracketThen Disjunction (LeafThen No (LeafThen (Call 1) (LeafThen Cut End))) End))

pub record NestedBrackets : Type 0 where
  pub tokens : tree_tokens nested_tree
      ≡ token.And
      ∷ (token.Call 0
      ∷ (token.Or ∷ (token.No ∷ (token.Call 1 ∷ (token.Cut ∷ (token.Close ∷ (token.Close ∷ [])))))))
  pub of_all : tree_truth full nested_tree ≡ true
  pub of_none : tree_truth empty nested_tree ≡ false

-- the tree of each instance in turn, false past the last
abbrev pub tree_at : List Tree → ℕ → Tree
tree_at [] n = Single No
tree_at (tree ∷ trees) zero = tree
tree_at (tree ∷ trees) (suc n) = tree_at trees n

abbrev pub mu : ℕ → Signature
mu n = record { sign = Mu; size = n }

abbrev pub nu : ℕ → Signature
nu n = record { sign = Nu; size = n }

-- nu X = X holds, mu X = X doesn't
pub record SelfReference : Type 0 where
  pub greatest : solved (nu 1 ∷ []) (tree_at (Single (Call 0) ∷ [])) 0 ≡ true
  pub least : solved (mu 1 ∷ []) (tree_at (Single (Call 0) ∷ [])) 0 ≡ false

-- mu X = Y; nu Y = X: the first sign decides
pub record LeastWithinGreatest : Type 0 where
  pub least_first : solved (mu 1 ∷ (nu 1 ∷ [])) (tree_at (Single (Call 1) ∷ (Single (Call 0) ∷ [])))
      0 ≡ false
  pub greatest_first : solved (nu 1 ∷ (mu 1 ∷ []))
      (tree_at (Single (Call 1) ∷ (Single (Call 0) ∷ []))) 0 ≡ true
