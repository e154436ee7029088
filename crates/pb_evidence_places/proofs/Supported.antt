-- The calls that a choice through a tree names are calls of the tree.
use Rattle.std.proofs.Common.{◌≡◌, ℕ, zero, suc, ◌<◌, inl, inr, Bool, true, false, List, [], ◌∷◌}
use Rattle.std.proofs.Common.{◌++◌, length, get_or, sym, subst, arith}
use Rattle.std.specs.Prelude.{Contains}
use Rattle.pb_fixpoint_trees.specs.Tree as trees
use Rattle.pb_fixpoint_trees.specs.declared.junction.Junction.{Junction}
use Rattle.pb_fixpoint_trees.specs.declared.junction.Junction.TheVariants.{Conjunction, Disjunction}
use Rattle.pb_fixpoint_trees.specs.Tree.{Leaf, Operands, End, LeafThen}
use Rattle.pb_fixpoint_trees.specs.Tree.{BracketThen, Tree, Single, Root, LeafCalls, OperandsCall, TreeCalls}
use Rattle.pb_evidence.specs.Supports.{IsJoined, IsLeafSupport, IsOperandsSupport, IsTreeSupport}

module _ (P : ℕ → Type 0) where
  abbrev EachIs : List ℕ → Type 0
  EachIs [] = Unit {0}
  EachIs (x ∷ xs) = P x × EachIs xs

  both-are : (xs ys : List ℕ) → EachIs xs → EachIs ys → EachIs (xs ++ ys)
  both-are [] ys h k = k
  both-are (x ∷ xs) ys h k = (h.0, both-are xs ys h.1 k)

  leaf-named : (b : Bool) (l : Leaf) (xs : List ℕ) → IsLeafSupport b l xs → LeafCalls P l → EachIs xs
  leaf-named b trees.Yes xs is calls = subst EachIs (sym is.1) tt
  leaf-named b trees.No xs is calls = subst EachIs (sym is.1) tt
  leaf-named b trees.Cut xs is calls = subst EachIs (sym is.1) tt
  leaf-named b (trees.Call n) xs is calls = subst EachIs (sym is) (calls, tt)

  joined-named : (b : Bool) (c : Junction) (One Other : List ℕ → Type 0)
      → ((xs : List ℕ) → One xs → EachIs xs) → ((xs : List ℕ) → Other xs → EachIs xs)
      → (xs : List ℕ) → IsJoined b c One Other xs → EachIs xs
  joined-named true Disjunction One Other f g xs is = elim is [ inl h ↦ f xs h | inr h ↦ g xs h ]
  joined-named false Conjunction One Other f g xs is = elim is [ inl h ↦ f xs h | inr h ↦ g xs h ]
  joined-named true Conjunction One Other f g xs is =
      subst EachIs (sym is.4) (both-are is.0 is.1 (f is.0 is.2) (g is.1 is.3))
  joined-named false Disjunction One Other f g xs is =
      subst EachIs (sym is.4) (both-are is.0 is.1 (f is.0 is.2) (g is.1 is.3))

  operands-named : (b : Bool) (c : Junction) (os : Operands) → OperandsCall P os
      → (xs : List ℕ) → IsOperandsSupport b c os xs → EachIs xs
  operands-named b c End calls xs is = subst EachIs (sym is.1) tt
  operands-named b c (LeafThen l after) calls xs is =
      joined-named b c (IsLeafSupport b l) (IsOperandsSupport b c after)
      (λ ys h. leaf-named b l ys h calls.0) (operands-named b c after calls.1) xs is
  operands-named b c (BracketThen d inside after) calls xs is =
      joined-named b c (IsOperandsSupport b d inside) (IsOperandsSupport b c after)
      (operands-named b d inside calls.0) (operands-named b c after calls.1) xs is

  tree-named : (b : Bool) (tree : Tree) → TreeCalls P tree → (xs : List ℕ) → IsTreeSupport b tree xs
      → EachIs xs
  tree-named b (Single l) calls xs is = leaf-named b l xs is calls
  tree-named b (Root c os) calls xs is = operands-named b c os calls xs is

  is-among : (xs : List ℕ) → EachIs xs → (x : ℕ) → Contains xs x → P x
  is-among [] each x has = absurd (none has.1)
    where
      none : {k : ℕ} → k < 0 → ⊥
      none h = omega (arith, h)
  is-among (y ∷ ys) each x has = by has.0 has.1 has.2 (λ k h at. is-among ys each.1 x (k, h, at))
    where
      by : (k : ℕ) → k < length (y ∷ ys) → get_or (y ∷ ys) k x ≡ x
          → ((i : ℕ) → i < length ys → get_or ys i x ≡ x → P x) → P x
      by zero h at behind = subst P at each.0
      by (suc k) h at behind = behind k (omega (arith, h)) at

  pub named-called : (b : Bool) (tree : Tree) → TreeCalls P tree → (xs : List ℕ)
      → IsTreeSupport b tree xs → (x : ℕ) → Contains xs x → P x
  named-called b tree calls xs is x has = is-among xs (tree-named b tree calls xs is) x has
