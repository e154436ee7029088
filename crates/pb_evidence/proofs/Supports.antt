-- The calls that a choice through a tree names are enough for its value.
use Rattle.std.proofs.Common.{◌≡◌, ℕ, Bool, true, false, List, [], ◌∷◌, inl, inr, refl, sym, subst}
use Rattle.std.specs.Prelude.{Contains}
use Rattle.std.proofs.lemmas.Bool.{cond-true}
use Rattle.std.proofs.lemmas.List.Elements.{Contains-append_left, Contains-append_right}
use Rattle.pb_fixpoint.specs.Solution.{Environment}
use Rattle.pb_game.specs.Adjacency.{is_among}
use Rattle.pb_fixpoint_trees.specs.declared.junction.Junction.{Junction}
use Rattle.pb_fixpoint_trees.specs.declared.junction.Junction.TheVariants.{Conjunction, Disjunction}
use Rattle.pb_fixpoint_trees.specs.Junctions.{joined}
use Rattle.pb_fixpoint_trees.specs.Tree.{Leaf, Yes, No, Cut, Call, Operands, End, LeafThen, BracketThen, Tree, Single, Root, leaf_truth, operands_truth, tree_truth}
use Rattle.pb_fixpoint_trees.proofs.Members.{contains_of_among}
use Rattle.pb_strategy.proofs.Players.{joined_left, joined_right, joined_both}
use Rattle.pb_evidence.specs.ProofGraphs.{exactly}
use Rattle.pb_evidence.specs.Supports.{IsLeafSupport, IsJoined, IsOperandsSupport, IsTreeSupport, SupportsSuffice}
use Rattle.pb_evidence.proofs.Proving.{test_of}

-- all these calls have the value b
abbrev HaveValue : Environment ℕ → Bool → List ℕ → Type 0
HaveValue t b calls = (m : ℕ) → Contains calls m → t m ≡ b

-- calls that P holds of give x the value b
abbrev Gives : Environment ℕ → Bool → (List ℕ → Type 0) → Bool → Type 0
Gives t b P x = (calls : List ℕ) → P calls → HaveValue t b calls → x ≡ b

joined_gives : (t : Environment ℕ) (b : Bool) (c : Junction) (P Q : List ℕ → Type 0) (x y : Bool) →
    Gives t b P x → Gives t b Q y → Gives t b (IsJoined b c P Q) (joined c x y)
joined_gives t true Disjunction P Q x y one other calls (inl h) values = joined_left true x y (one calls h values)
joined_gives t true Disjunction P Q x y one other calls (inr h) values = joined_right true x y (other calls h values)
joined_gives t false Conjunction P Q x y one other calls (inl h) values = joined_left false x y (one calls h values)
joined_gives t false Conjunction P Q x y one other calls (inr h) values = joined_right false x y (other calls h values)
joined_gives t true Conjunction P Q x y one other calls h values =
    joined_both true x y
    (one h.0 h.2 (λ m k. values m (subst (λ (zs : List ℕ). Contains zs m) (sym h.4) (Contains-append_left h.0 h.1 m k))))
    (other h.1 h.3 (λ m k. values m (subst (λ (zs : List ℕ). Contains zs m) (sym h.4) (Contains-append_right h.0 h.1 m k))))
joined_gives t false Disjunction P Q x y one other calls h values =
    joined_both false x y
    (one h.0 h.2 (λ m k. values m (subst (λ (zs : List ℕ). Contains zs m) (sym h.4) (Contains-append_left h.0 h.1 m k))))
    (other h.1 h.3 (λ m k. values m (subst (λ (zs : List ℕ). Contains zs m) (sym h.4) (Contains-append_right h.0 h.1 m k))))

module _ (t : Environment ℕ) (b : Bool) where
  leaf_gives : (l : Leaf) → Gives t b (IsLeafSupport b l) (leaf_truth t l)
  leaf_gives Yes calls h values = sym h.0
  leaf_gives No calls h values = sym h.0
  leaf_gives Cut calls h values = sym h.0
  leaf_gives (Call n) calls h values =
      values n (subst (λ (zs : List ℕ). Contains zs n) (sym h) (contains_of_among (n ∷ []) n (inl refl)))

  operands_give : (c : Junction) (f : Operands) → Gives t b (IsOperandsSupport b c f) (operands_truth t c f)
  operands_give c End calls h values = h.0
  operands_give c (LeafThen l after) calls h values =
      joined_gives t b c (IsLeafSupport b l) (IsOperandsSupport b c after) (leaf_truth t l) (operands_truth t c after)
      (leaf_gives l) (operands_give c after) calls h values
  operands_give c (BracketThen d inside after) calls h values =
      joined_gives t b c (IsOperandsSupport b d inside) (IsOperandsSupport b c after) (operands_truth t d inside) (operands_truth t c after)
      (operands_give d inside) (operands_give c after) calls h values

  tree_gives : (tree : Tree) → Gives t b (IsTreeSupport b tree) (tree_truth t tree)
  tree_gives (Single l) calls h values = leaf_gives l calls h values
  tree_gives (Root c f) calls h values = operands_give c f calls h values

pub supports_suffice : SupportsSuffice
supports_suffice b tree calls is =
    tree_gives (exactly b calls) b tree is.0 is.1
    (λ m h. cond-true (is_among calls m) b _ (test_of calls m ((is.2 m).0 h)))
