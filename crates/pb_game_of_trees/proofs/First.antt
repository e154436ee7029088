-- The tokens of what is open, one after the other.
use Rattle.std.proofs.Common.{◌≡◌, ℕ, zero, suc, ◌<◌, ◌≤◌, List, [], ◌∷◌, ◌++◌, length, get_or, drop, Option, Some, None, refl, sym, ap, ◌∙◌, append_assoc, arith}
use Rattle.std.specs.Prelude.{slice_get}
use Rattle.std.proofs.Math.Seq.{drop-length}
use Rattle.pb_fixpoint_trees.specs.declared.Token.{Token}
use Rattle.pb_fixpoint_trees.specs.declared.Token.TheVariants as token
use Rattle.pb_fixpoint_trees.specs.declared.junction.Junction.{Junction}
use Rattle.pb_fixpoint_trees.specs.Tree.{Leaf, Operands, End, LeafThen, BracketThen, Tree, Single, Root}
use Rattle.pb_fixpoint_trees.specs.Tokens.{opening, leaf_token, operands_tokens, tree_tokens}
use Rattle.pb_fixpoint_trees.specs.Game.{inner}
use Rattle.pb_fixpoint_trees.proofs.OneTree.{Role, AtLeaf, Opens, Closes, role, role-leaf, role-opening}
use Rattle.pb_game_of_trees.specs.Builder.{behind_first, first_token, rest_tokens, rest_at, opened, rest_brackets}

-- ---- which operands a token begins

-- the role of what comes first
abbrev first_role : List Operands → Option Role
first_role [] = None
first_role (End ∷ fs) = Some Closes
first_role (LeafThen l after ∷ fs) = Some (AtLeaf l)
first_role (BracketThen c inside after ∷ fs) = Some (Opens c)

abbrev mapped : Option Token → Option Role
mapped None = None
mapped (Some t) = Some (role t)

first_role-is : (fs : List Operands) → first_role fs ≡ mapped (first_token fs)
first_role-is [] = refl
first_role-is (End ∷ fs) = refl
first_role-is (LeafThen l after ∷ fs) = ap Some (sym (role-leaf l))
first_role-is (BracketThen c inside after ∷ fs) = ap Some (sym (role-opening c))

-- where a token comes first, its role does
first_is : (fs : List Operands) (t : Token) → first_token fs ≡ Some t → first_role fs ≡ Some (role t)
first_is fs t e = first_role-is fs ∙ ap mapped e

closes_role : (fs : List Operands) → first_role fs ≡ Some Closes → fs ≡ End ∷ behind_first fs
closes_role [] e = cc
closes_role (End ∷ fs) e = refl
closes_role (LeafThen l after ∷ fs) e = cc
closes_role (BracketThen c inside after ∷ fs) e = cc

pub closes : (fs : List Operands) → first_token fs ≡ Some token.Close → fs ≡ End ∷ behind_first fs
closes fs e = closes_role fs (first_is fs token.Close e)

pub record BeginsWithLeaf (l : Leaf) (fs : List Operands) : Type 0 where
  pub after : Operands
  pub outer : List Operands
  pub is : fs ≡ LeafThen l after ∷ outer
  pub rest : behind_first fs ≡ after ∷ outer

leaf_role : (l : Leaf) (fs : List Operands) → first_role fs ≡ Some (AtLeaf l) → BeginsWithLeaf l fs
leaf_role l [] e = cc
leaf_role l (End ∷ fs) e = cc
leaf_role l (LeafThen m after ∷ fs) e = let same : m ≡ l = cc in record {
  after = after;
  outer = fs;
  is = ap (λ (x : Leaf). LeafThen x after ∷ fs) same;
  rest = refl;
}
leaf_role l (BracketThen c inside after ∷ fs) e = cc

pub leaf_first : (l : Leaf) (fs : List Operands) → first_token fs ≡ Some (leaf_token l) → BeginsWithLeaf l fs
leaf_first l fs e = leaf_role l fs (first_is fs (leaf_token l) e ∙ ap Some (role-leaf l))

pub record BeginsWithBracket (c : Junction) (fs : List Operands) : Type 0 where
  pub inside : Operands
  pub after : Operands
  pub outer : List Operands
  pub is : fs ≡ BracketThen c inside after ∷ outer
  pub rest : behind_first fs ≡ inside ∷ (after ∷ outer)

bracket_role : (c : Junction) (fs : List Operands) → first_role fs ≡ Some (Opens c) → BeginsWithBracket c fs
bracket_role c [] e = cc
bracket_role c (End ∷ fs) e = cc
bracket_role c (LeafThen m after ∷ fs) e = cc
bracket_role c (BracketThen d inside after ∷ fs) e = let same : d ≡ c = cc in record {
  inside = inside;
  after = after;
  outer = fs;
  is = ap (λ (x : Junction). BracketThen x inside after ∷ fs) same;
  rest = refl;
}

pub bracket_first : (c : Junction) (fs : List Operands) → first_token fs ≡ Some (opening c) → BeginsWithBracket c fs
bracket_first c fs e = bracket_role c fs (first_is fs (opening c) e ∙ ap Some (role-opening c))

-- ---- the first token of a tree

abbrev tree_role : Tree → Role
tree_role (Single l) = AtLeaf l
tree_role (Root c f) = Opens c

tree_first : (tree : Tree) (t : Token) → slice_get (tree_tokens tree) 0 ≡ Some t → tree_role tree ≡ role t
tree_first (Single l) t e = let same : leaf_token l ≡ t = cc in sym (role-leaf l) ∙ ap role same
tree_first (Root c f) t e = let same : opening c ≡ t = cc in sym (role-opening c) ∙ ap role same

pub record IsRoot (c : Junction) (tree : Tree) : Type 0 where
  pub operands : Operands
  pub is : tree ≡ Root c operands

root_role : (c : Junction) (tree : Tree) → tree_role tree ≡ Opens c → IsRoot c tree
root_role c (Single l) e = cc
root_role c (Root d f) e = let same : d ≡ c = cc in record { operands = f; is = ap (λ (x : Junction). Root x f) same }

pub root_first : (c : Junction) (tree : Tree) → slice_get (tree_tokens tree) 0 ≡ Some (opening c) → IsRoot c tree
root_first c tree e = root_role c tree (tree_first tree (opening c) e ∙ role-opening c)

single_role : (l : Leaf) (tree : Tree) → tree_role tree ≡ AtLeaf l → tree ≡ Single l
single_role l (Single m) e = let same : m ≡ l = cc in ap Single same
single_role l (Root d f) e = cc

pub single_first : (l : Leaf) (tree : Tree) → slice_get (tree_tokens tree) 0 ≡ Some (leaf_token l) → tree ≡ Single l
single_first l tree e = single_role l tree (tree_first tree (leaf_token l) e ∙ role-leaf l)

-- ---- the tokens in order

drop-more : (xs : List Token) (j : ℕ) → drop 1 (drop j xs) ≡ drop (suc j) xs
drop-more [] zero = refl
drop-more [] (suc j) = refl
drop-more (x ∷ xs) zero = refl
drop-more (x ∷ xs) (suc j) = drop-more xs j

behind_tokens : (fs : List Operands) → rest_tokens (behind_first fs) ≡ drop 1 (rest_tokens fs)
behind_tokens [] = refl
behind_tokens (End ∷ fs) = refl
behind_tokens (LeafThen l after ∷ fs) = refl
behind_tokens (BracketThen c inside after ∷ fs) =
    sym (append_assoc (operands_tokens inside) (token.Close ∷ operands_tokens after) (token.Close ∷ rest_tokens fs))

rest_tokens-at : (j : ℕ) (fs : List Operands) → rest_tokens (rest_at j fs) ≡ drop j (rest_tokens fs)
rest_tokens-at zero fs = refl
rest_tokens-at (suc j) fs = behind_tokens (rest_at j fs) ∙ (ap (drop 1) (rest_tokens-at j fs) ∙ drop-more (rest_tokens fs) j)

first_of_tokens : (fs : List Operands) → first_token fs ≡ slice_get (rest_tokens fs) 0
first_of_tokens [] = refl
first_of_tokens (End ∷ fs) = refl
first_of_tokens (LeafThen l after ∷ fs) = refl
first_of_tokens (BracketThen c inside after ∷ fs) = refl

first_of_drop : (xs : List Token) (j : ℕ) (d : Token) → j < length xs → slice_get (drop j xs) 0 ≡ Some (get_or xs j d)
first_of_drop [] j d l = absurd (omega arith)
first_of_drop (x ∷ xs) zero d l = refl
first_of_drop (x ∷ xs) (suc j) d l = first_of_drop xs j d (omega arith)

pub first_at : (j : ℕ) (fs : List Operands) (d : Token) → j < length (rest_tokens fs) → first_token (rest_at j fs) ≡ Some (get_or (rest_tokens fs) j d)
first_at j fs d l = first_of_tokens (rest_at j fs) ∙ (ap (λ (xs : List Token). slice_get xs 0) (rest_tokens-at j fs) ∙ first_of_drop (rest_tokens fs) j d l)

some_left : (fs : List Operands) (g : Operands) → operands_tokens g ++ token.Close ∷ rest_tokens fs ≡ [] → ⊥
some_left fs End h = cc
some_left fs (LeafThen l after) h = cc
some_left fs (BracketThen c inside after) h = cc

nothing_left : (fs : List Operands) → rest_tokens fs ≡ [] → fs ≡ []
nothing_left [] e = refl
nothing_left (f ∷ fs) e = absurd (some_left fs f e)

-- behind all tokens nothing is open
pub rest_at-all : (fs : List Operands) → rest_at (length (rest_tokens fs)) fs ≡ []
rest_at-all fs = nothing_left (rest_at (length (rest_tokens fs)) fs) (rest_tokens-at (length (rest_tokens fs)) fs ∙ drop-length (rest_tokens fs))

-- ---- what holds behind each token

behind_brackets : (fs : List Operands) → rest_brackets (behind_first fs) ≤ rest_brackets fs
behind_brackets [] = omega arith
behind_brackets (End ∷ fs) = omega arith
behind_brackets (LeafThen l after ∷ fs) = omega arith
behind_brackets (BracketThen c inside after ∷ fs) = omega arith

pub rest_brackets-at : (j : ℕ) (fs : List Operands) → rest_brackets (rest_at j fs) ≤ rest_brackets fs
rest_brackets-at zero fs = omega arith
rest_brackets-at (suc j) fs = omega (arith, behind_brackets (rest_at j fs), rest_brackets-at j fs)

pub opened-brackets : (tree : Tree) → rest_brackets (opened tree) ≡ inner tree
opened-brackets (Single l) = refl
opened-brackets (Root c f) = omega arith

-- a tree's tokens are its first and those of what is open behind it
pub length-tree_tokens : (tree : Tree) → length (tree_tokens tree) ≡ suc (length (rest_tokens (opened tree)))
length-tree_tokens (Single l) = refl
length-tree_tokens (Root c f) = refl

pub token_behind : (tree : Tree) (j : ℕ) (d : Token) → get_or (tree_tokens tree) (suc j) d ≡ get_or (rest_tokens (opened tree)) j d
token_behind (Single l) j d = refl
token_behind (Root c f) j d = refl
