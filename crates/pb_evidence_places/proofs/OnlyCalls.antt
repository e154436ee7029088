-- Tokens that call only instances of which something holds, and the tree that is made of them.
use Rattle.std.proofs.Common.{ℕ, List, [], ◌∷◌, ◌++◌}
use Rattle.pb_fixpoint_trees.specs.declared.Token.{Token}
use Rattle.pb_fixpoint_trees.specs.declared.Token.TheVariants as token
use Rattle.pb_fixpoint_trees.specs.Tree as trees
use Rattle.pb_fixpoint_trees.specs.Tree.{Leaf, Operands, End, LeafThen, BracketThen, Tree, Single, Root}
use Rattle.pb_fixpoint_trees.specs.Tree.{LeafCalls, OperandsCall, TreeCalls}
use Rattle.pb_fixpoint_trees.specs.Tokens.{leaf_token, operands_tokens, tree_tokens}

module _ (P : ℕ → Type 0) where
  abbrev pub MayStand : Token → Type 0
  MayStand (token.Call n) = P n
  MayStand _ = Unit {0}

  abbrev pub OnlyCalls : List Token → Type 0
  OnlyCalls [] = Unit {0}
  OnlyCalls (t ∷ ts) = MayStand t × OnlyCalls ts

  pub one-more : (ts : List Token) (t : Token) → OnlyCalls ts → MayStand t → OnlyCalls (ts ++ t ∷ [])
  one-more [] t only may = (may, tt)
  one-more (u ∷ ts) t only may = (only.0, one-more ts t only.1 may)

  front : (ts us : List Token) → OnlyCalls (ts ++ us) → OnlyCalls ts
  front [] us only = tt
  front (t ∷ ts) us only = (only.0, front ts us only.1)

  back : (ts us : List Token) → OnlyCalls (ts ++ us) → OnlyCalls us
  back [] us only = only
  back (t ∷ ts) us only = back ts us only.1

  of-leaf : (l : Leaf) → MayStand (leaf_token l) → LeafCalls P l
  of-leaf trees.Yes may = tt
  of-leaf trees.No may = tt
  of-leaf trees.Cut may = tt
  of-leaf (trees.Call n) may = may

  of-operands : (xs : Operands) → OnlyCalls (operands_tokens xs) → OperandsCall P xs
  of-operands End only = tt
  of-operands (LeafThen l after) only = (of-leaf l only.0, of-operands after only.1)
  of-operands (BracketThen c inside after) only =
      let behind = token.Close ∷ operands_tokens after in (
        of-operands inside (front (operands_tokens inside) behind only.1),
        of-operands after ((back (operands_tokens inside) behind only.1).1),
      )

  pub of-tree : (tree : Tree) → OnlyCalls (tree_tokens tree) → TreeCalls P tree
  of-tree (Single l) only = of-leaf l only.0
  of-tree (Root c xs) only = of-operands xs (front (operands_tokens xs) (token.Close ∷ []) only.1)
