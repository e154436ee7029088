-- A list of tokens is at most one tree: a leaf or an opening token shows what it is of, and `Close` ends a bracket.
use Rattle.std.proofs.Common.{◌≡◌, List, [], ◌∷◌, ◌++◌, refl, sym, ap, ◌∙◌, append_assoc}
use Rattle.pb_fixpoint_trees.specs.declared.Token.{Token}
use Rattle.pb_fixpoint_trees.specs.declared.Token.TheVariants as token
use Rattle.pb_fixpoint_trees.specs.declared.junction.Junction.{Junction}
use Rattle.pb_fixpoint_trees.specs.declared.junction.Junction.TheVariants.{Conjunction, Disjunction}
use Rattle.pb_fixpoint_trees.specs.Tree.{Leaf, Yes, No, Cut, Call, Operands, End, LeafThen, BracketThen, Single, Root}
use Rattle.pb_fixpoint_trees.specs.Tokens.{opening, leaf_token, operands_tokens}
use Rattle.pb_fixpoint_trees.specs.Laws.{TokensAreOneTree}

-- what a token says of the tree at its place
pub data Role : Type 0 where
  AtLeaf : Leaf → Role
  Opens : Junction → Role
  Closes : Role

abbrev pub role : Token → Role
role token.And = Opens Conjunction
role token.Or = Opens Disjunction
role token.Close = Closes
role token.Yes = AtLeaf Yes
role token.No = AtLeaf No
role token.Cut = AtLeaf Cut
role (token.Call n) = AtLeaf (Call n)

pub role-leaf : (l : Leaf) → role (leaf_token l) ≡ AtLeaf l
role-leaf Yes = refl
role-leaf No = refl
role-leaf Cut = refl
role-leaf (Call n) = refl

pub role-opening : (c : Junction) → role (opening c) ≡ Opens c
role-opening Conjunction = refl
role-opening Disjunction = refl

-- the roles of the first tokens of equal lists
roles : {x y : Role} {t u : Token} (ts us : List Token) → role t ≡ x → role u ≡ y → t ∷ ts ≡ u ∷ us → x ≡ y
roles {x} {y} {t} {u} ts us p q h = let e : t ≡ u = cc in sym p ∙ (ap role e ∙ q)

rest : {t u : Token} (ts us : List Token) → t ∷ ts ≡ u ∷ us → ts ≡ us
rest ts us h = cc

-- where two lists of operands end alike, they are one and go on alike
same_operands : (f g : Operands) (xs ys : List Token) → operands_tokens f ++ token.Close ∷ xs ≡ operands_tokens g ++ token.Close ∷ ys → (f ≡ g) × (xs ≡ ys)
same_operands End End xs ys h = (refl, rest xs ys h)
same_operands End (LeafThen l g) xs ys h = let e : Closes ≡ AtLeaf l = roles _ _ refl (role-leaf l) h in cc
same_operands End (BracketThen c i g) xs ys h = let e : Closes ≡ Opens c = roles _ _ refl (role-opening c) h in cc
same_operands (LeafThen l f) End xs ys h = let e : AtLeaf l ≡ Closes = roles _ _ (role-leaf l) refl h in cc
same_operands (LeafThen l f) (LeafThen m g) xs ys h =
    let e : AtLeaf l ≡ AtLeaf m = roles _ _ (role-leaf l) (role-leaf m) h in
    let after = same_operands f g xs ys (rest _ _ h) in
    let a : f ≡ g = after.0 in
    (cc, after.1)
same_operands (LeafThen l f) (BracketThen c i g) xs ys h = let e : AtLeaf l ≡ Opens c = roles _ _ (role-leaf l) (role-opening c) h in cc
same_operands (BracketThen c i f) End xs ys h = let e : Opens c ≡ Closes = roles _ _ (role-opening c) refl h in cc
same_operands (BracketThen c i f) (LeafThen m g) xs ys h = let e : Opens c ≡ AtLeaf m = roles _ _ (role-opening c) (role-leaf m) h in cc
same_operands (BracketThen c i f) (BracketThen d j g) xs ys h =
    let e : Opens c ≡ Opens d = roles _ _ (role-opening c) (role-opening d) h in
    let inside = same_operands i j (operands_tokens f ++ token.Close ∷ xs) (operands_tokens g ++ token.Close ∷ ys)
    (sym (append_assoc (operands_tokens i) (token.Close ∷ operands_tokens f) (token.Close ∷ xs))
    ∙ (rest _ _ h ∙ append_assoc (operands_tokens j) (token.Close ∷ operands_tokens g) (token.Close ∷ ys))) in
    let after = same_operands f g xs ys inside.1 in
    let a : i ≡ j = inside.0 in
    let b : f ≡ g = after.0 in
    (cc, after.1)

pub tokens_are_one_tree : TokensAreOneTree
tokens_are_one_tree (Single l) (Single m) xs ys h =
    let e : AtLeaf l ≡ AtLeaf m = roles _ _ (role-leaf l) (role-leaf m) h in
    (cc, rest xs ys h)
tokens_are_one_tree (Single l) (Root c g) xs ys h = let e : AtLeaf l ≡ Opens c = roles _ _ (role-leaf l) (role-opening c) h in cc
tokens_are_one_tree (Root c f) (Single m) xs ys h = let e : Opens c ≡ AtLeaf m = roles _ _ (role-opening c) (role-leaf m) h in cc
tokens_are_one_tree (Root c f) (Root d g) xs ys h =
    let e : Opens c ≡ Opens d = roles _ _ (role-opening c) (role-opening d) h in
    let same = same_operands f g xs ys
    (sym (append_assoc (operands_tokens f) (token.Close ∷ []) xs) ∙ (rest _ _ h ∙ append_assoc (operands_tokens g) (token.Close ∷ []) ys)) in
    let a : f ≡ g = same.0 in
    (cc, same.1)
