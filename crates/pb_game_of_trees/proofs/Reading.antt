-- What reading a token comes to, by what comes first of what is open.
use Rattle.std.proofs.Common.{◌≡◌, ℕ, suc, ◌-◌, ◌<◌, ◌≤◌, List, [], ◌∷◌, length, get_or, Some, Result, Ok, Err, refl, sym, ap, ◌∙◌, subst, arith}
use Rattle.std.specs.Prelude.{OnOk, slice_get}
use Rattle.pb_fixpoint_trees.specs.declared.Token.{Token}
use Rattle.pb_fixpoint_trees.specs.declared.Token.TheVariants as token
use Rattle.pb_fixpoint_trees.specs.declared.player.Player.{Player}
use Rattle.pb_fixpoint_trees.specs.declared.player.Player.TheVariants.{Even}
use Rattle.pb_fixpoint_trees.specs.declared.junction.Junction.{Junction}
use Rattle.pb_fixpoint_trees.specs.Tree.{Leaf, Operands, End, LeafThen, BracketThen, Tree, Single, Root}
use Rattle.pb_fixpoint_trees.specs.Tokens.{opening, leaf_token, tree_tokens}
use Rattle.pb_fixpoint_trees.specs.Game.{Vertex, target, inner}
use Rattle.pb_game_of_trees.specs.declared.builder.Builder.{Builder}
use Rattle.pb_game_of_trees.specs.Builder.{IsAt, IsBefore, IsBeforeFirst, HasOneEdge, HasTree, opened, first_token, behind_first, rest_at, rest_tokens}
use Rattle.pb_game_of_trees.proofs.First.{BeginsWithBracket, closes, leaf_first, bracket_first, root_first, single_first, first_at, rest_at-all, rest_brackets-at, opened-brackets, length-tree_tokens, token_behind}

-- a leaf is one vertex
leaf_edge : (at : ℕ → ℕ) (l : Leaf) (vertex : ℕ) → vertex ≡ target at l → HasOneEdge at (Single l) Even vertex
leaf_edge at l vertex is = record {
  inside = refl;
  vertices = λ p n. ap (λ (v : ℕ). let x : Vertex = record { owner = Even; priority = p; successors = v ∷ [] } in x ∷ []) (sym is);
}

-- operands that begin with a bracket
pub with_bracket : (c : Junction) {at : ℕ → ℕ} {builder : Builder} {fs : List Operands} {behind : List Vertex} {limit : ℕ} (b : BeginsWithBracket c fs) →
    IsAt at builder (BracketThen c b.inside b.after ∷ b.outer) behind limit → IsAt at builder fs behind limit
with_bracket c {at} {builder} {fs} {behind} {limit} b is = subst (λ (gs : List Operands). IsAt at builder gs behind limit) (sym b.is) is

-- what is open behind a bracket's first token
pub behind_bracket : (c : Junction) {at : ℕ → ℕ} {builder : Builder} {fs : List Operands} {behind : List Vertex} {limit : ℕ} →
    (before : IsBefore at builder fs (opening c) behind limit) →
    IsAt at builder ((bracket_first c fs before.first).inside ∷ ((bracket_first c fs before.first).after ∷ (bracket_first c fs before.first).outer)) behind limit
behind_bracket c {at} {builder} {fs} {behind} {limit} before =
    subst (λ (gs : List Operands). IsAt at builder gs behind limit) (bracket_first c fs before.first).rest before.rest

pub behind_root : (c : Junction) {at : ℕ → ℕ} {builder : Builder} {tree : Tree} {behind : List Vertex} {limit : ℕ} →
    (before : IsBeforeFirst at builder tree (opening c) behind limit) → IsAt at builder ((root_first c tree before.first).operands ∷ []) behind limit
behind_root c {at} {builder} {tree} {behind} {limit} before =
    subst (λ (y : Tree). IsAt at builder (opened y) behind limit) (root_first c tree before.first).is before.rest

module _ (at : ℕ → ℕ) (old new : Builder) (t : Token) where
  -- the builder has read the token, and what is behind it
  abbrev Reads : Type 0
  Reads = (fs : List Operands) (behind : List Vertex) (limit : ℕ) → IsBefore at old fs t behind limit → IsAt at new fs behind limit

  abbrev ReadsFirst : ℕ → Type 0
  ReadsFirst priority = (tree : Tree) (behind : List Vertex) (limit : ℕ) → IsBeforeFirst at old tree t behind limit → HasTree at new priority tree behind limit

  abbrev Closes : Type 0
  Closes = (at' : ℕ → ℕ) (gs : List Operands) (behind : List Vertex) (limit : ℕ) → IsAt at' old gs behind limit → IsAt at' new (End ∷ gs) behind limit

  pub read_close : {T E : Type 0} (r : Result T E) → OnOk r Closes → t ≡ token.Close → OnOk r Reads
  read_close (Err x) h e = tt
  read_close (Ok x) h e = λ fs behind limit before.
      subst (λ (gs : List Operands). IsAt at new gs behind limit) (sym (closes fs (before.first ∙ ap Some e))) (h at _ behind limit before.rest)

  abbrev ReadsLeaf : ℕ → Type 0
  ReadsLeaf vertex = (at' : ℕ → ℕ) (l : Leaf) (f : Operands) (gs : List Operands) (behind : List Vertex) (limit : ℕ) → vertex ≡ target at' l →
      IsAt at' old (f ∷ gs) behind limit → IsAt at' new (LeafThen l f ∷ gs) behind limit

  pub read_leaf : {T E : Type 0} (r : Result T E) (vertex : ℕ) (l : Leaf) → OnOk r (ReadsLeaf vertex) → vertex ≡ target at l → t ≡ leaf_token l → OnOk r Reads
  read_leaf (Err x) vertex l h is e = tt
  read_leaf (Ok x) vertex l h is e = λ fs behind limit before.
      let b = leaf_first l fs (before.first ∙ ap Some e) in
      subst (λ (gs : List Operands). IsAt at new gs behind limit) (sym b.is)
      (h at l b.after b.outer behind limit is (subst (λ (gs : List Operands). IsAt at old gs behind limit) b.rest before.rest))

  abbrev Opens : Junction → Type 0
  Opens c = (at' : ℕ → ℕ) (fs : List Operands) (behind : List Vertex) (limit : ℕ) → IsBefore at' old fs (opening c) behind limit → IsAt at' new fs behind limit

  pub read_bracket : {T E : Type 0} (r : Result T E) (c : Junction) → OnOk r (Opens c) → t ≡ opening c → OnOk r Reads
  read_bracket (Err x) c h e = tt
  read_bracket (Ok x) c h e = λ fs behind limit before. h at fs behind limit (subst (λ (u : Token). IsBefore at old fs u behind limit) e before)

  abbrev OpensRoot : ℕ → Junction → Type 0
  OpensRoot priority c = (at' : ℕ → ℕ) (tree : Tree) (behind : List Vertex) (limit : ℕ) → IsBeforeFirst at' old tree (opening c) behind limit → HasTree at' new priority tree behind limit

  pub read_root : {T E : Type 0} (r : Result T E) (priority : ℕ) (c : Junction) → OnOk r (OpensRoot priority c) → t ≡ opening c → OnOk r (ReadsFirst priority)
  read_root (Err x) priority c h e = tt
  read_root (Ok x) priority c h e = λ tree behind limit before. h at tree behind limit (subst (λ (u : Token). IsBeforeFirst at old tree u behind limit) e before)

  abbrev ReadsOneEdge : ℕ → Player → ℕ → Type 0
  ReadsOneEdge priority owner vertex = (at' : ℕ → ℕ) (tree : Tree) (behind : List Vertex) (limit : ℕ) → HasOneEdge at' tree owner vertex →
      IsAt at' old [] behind limit → HasTree at' new priority tree behind limit

  pub read_single : {T E : Type 0} (r : Result T E) (priority vertex : ℕ) (l : Leaf) → OnOk r (ReadsOneEdge priority Even vertex) → vertex ≡ target at l → t ≡ leaf_token l →
      OnOk r (ReadsFirst priority)
  read_single (Err x) priority vertex l h is e = tt
  read_single (Ok x) priority vertex l h is e = λ tree behind limit before.
      let same = single_first l tree (before.first ∙ ap Some e) in
      subst (λ (y : Tree). HasTree at new priority y behind limit) (sym same)
      (h at (Single l) behind limit (leaf_edge at l vertex is) (subst (λ (y : Tree). IsAt at old (opened y) behind limit) same before.rest))

  pub read_small : {T E : Type 0} (r : Result T E) (tokens : List Token) (priority vertex : ℕ) (owner : Player) → OnOk r (ReadsOneEdge priority owner vertex) →
      ((tree : Tree) → tokens ≡ tree_tokens tree → HasOneEdge at tree owner vertex) →
      OnOk r ((tree : Tree) (behind : List Vertex) (limit : ℕ) → tokens ≡ tree_tokens tree → IsAt at old [] behind limit → HasTree at new priority tree behind limit)
  read_small (Err x) tokens priority vertex owner h edge = tt
  read_small (Ok x) tokens priority vertex owner h edge = λ tree behind limit e is. h at tree behind limit (edge tree e) is

  -- a whole tree was read where its first token was
  pub read_tree : {T E : Type 0} (r : Result T E) (start : Builder) (tokens : List Token) (priority : ℕ) → OnOk r (ReadsFirst priority) →
      ((tree : Tree) (behind : List Vertex) (limit : ℕ) → tokens ≡ tree_tokens tree → IsAt at start [] behind limit → IsBeforeFirst at old tree t behind limit) →
      OnOk r ((tree : Tree) (behind : List Vertex) (limit : ℕ) → tokens ≡ tree_tokens tree → IsAt at start [] behind limit → HasTree at new priority tree behind limit)
  read_tree (Err x) start tokens priority h before = tt
  read_tree (Ok x) start tokens priority h before = λ tree behind limit e is. h tree behind limit (before tree behind limit e is)

-- ---- the loop over the tokens of a tree

-- behind all tokens but the first nothing is open
pub rest_none : (tokens : List Token) (tree : Tree) → tokens ≡ tree_tokens tree → rest_at (length tokens - 1) (opened tree) ≡ []
rest_none tokens tree e =
    let size : length tokens - 1 ≡ length (rest_tokens (opened tree)) = omega (arith, ap length e, length-tree_tokens tree) in
    ap (λ (k : ℕ). rest_at k (opened tree)) size ∙ rest_at-all (opened tree)

rest_step : (k : ℕ) (fs : List Operands) → 1 < k → rest_at (k - 1) fs ≡ behind_first (rest_at (k - 1 - 1) fs)
rest_step k fs l = let e : k - 1 ≡ suc (k - 1 - 1) = omega arith in ap (λ (j : ℕ). rest_at j fs) e

rest_first : (k : ℕ) (fs : List Operands) → k ≤ 1 → rest_at (k - 1) fs ≡ fs
rest_first k fs l = let e : k - 1 ≡ 0 = omega arith in ap (λ (j : ℕ). rest_at j fs) e

first_behind : (tokens : List Token) (tree : Tree) (k : ℕ) (d : Token) → tokens ≡ tree_tokens tree → 1 < k → k ≤ length tokens →
    first_token (rest_at (k - 1 - 1) (opened tree)) ≡ Some (get_or tokens (k - 1) d)
first_behind tokens tree k d e l h =
    let j : k - 1 ≡ suc (k - 1 - 1) = omega arith in
    let within : k - 1 - 1 < length (rest_tokens (opened tree)) = omega (arith, ap length e, length-tree_tokens tree) in
    first_at (k - 1 - 1) (opened tree) d within
    ∙ ap Some (sym (ap (λ (xs : List Token). get_or xs (k - 1) d) e ∙ (ap (λ (i : ℕ). get_or (tree_tokens tree) i d) j ∙ token_behind tree (k - 1 - 1) d)))

first_of_tree : (tree : Tree) (d : Token) → slice_get (tree_tokens tree) 0 ≡ Some (get_or (tree_tokens tree) 0 d)
first_of_tree (Single l) d = refl
first_of_tree (Root c f) d = refl

first_is : (tokens : List Token) (tree : Tree) (d : Token) → tokens ≡ tree_tokens tree → slice_get (tree_tokens tree) 0 ≡ Some (get_or tokens 0 d)
first_is tokens tree d e = first_of_tree tree d ∙ ap (λ (xs : List Token). Some (get_or xs 0 d)) (sym e)

-- what stands behind the k-th token of a tree, and behind its first one
module _ {at : ℕ → ℕ} {builder start : Builder} {behind : List Vertex} {limit : ℕ} (tokens : List Token) (tree : Tree) (spelled : tokens ≡ tree_tokens tree) (k : ℕ)
    (t : Token) (there : get_or tokens (k - 1) token.And ≡ t) (begins : IsAt at start [] behind limit) (less : inner tree < start.next)
    (is : IsAt at builder (rest_at (k - 1) (opened tree)) behind limit) where
  -- each token comes before some vertex
  some_next : 0 < builder.next
  some_next = omega (arith, begins.reaches, less, is.reaches, rest_brackets-at (k - 1) (opened tree), opened-brackets tree)

  pub before_token : 1 < k → k ≤ length tokens → IsBefore at builder (rest_at (k - 1 - 1) (opened tree)) t behind limit
  before_token more within = record {
    room = some_next;
    first = first_behind tokens tree k token.And spelled more within ∙ ap Some there;
    rest = subst (λ (fs : List Operands). IsAt at builder fs behind limit) (rest_step k (opened tree) more) is;
  }

  pub before_first : k ≤ 1 → IsBeforeFirst at builder tree t behind limit
  before_first last = record {
    room = some_next;
    first =
        let none : 0 ≡ k - 1 = omega arith in
        first_is tokens tree token.And spelled ∙ ap Some (ap (λ (i : ℕ). get_or tokens i token.And) none ∙ there);
    rest = subst (λ (fs : List Operands). IsAt at builder fs behind limit) (rest_first k (opened tree) last) is;
  }
