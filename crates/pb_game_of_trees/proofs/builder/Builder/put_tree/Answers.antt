use Rattle.std.proofs.Common.{◌≡◌, ℕ, ◌+◌, ◌-◌, ◌<◌, ◌++◌, List, [], ◌∷◌, length, length-append, append_assoc, append-nil, get_or, Option, Some, sym, ap, ◌∙◌, subst, arith}
use Rattle.std.specs.Prelude.{MatchOption}
use Rattle.std.proofs.Math.Seq.{get_or-append_seam}
use Rattle.pb_fixpoint_trees.specs.declared.Token.TheVariants as token
use Rattle.pb_fixpoint_trees.specs.declared.Token.{Token}
use Rattle.pb_fixpoint_trees.specs.Tree.{Operands, Tree}
use Rattle.pb_fixpoint_trees.specs.Tokens.{tree_tokens}
use Rattle.pb_fixpoint_trees.specs.Game.{inner, owner_of}
use Rattle.pb_game_of_trees.proofs.Closing.{inner_alike}
use Rattle.pb_game_of_trees.specs.Builder.{rest_at, opened, IsAt}
use Rattle.pb_game_of_trees.proofs.First.{length-tree_tokens}
use Rattle.pb_game_of_trees.proofs.AroundLeaf.{small_tree, small_edge}
use Rattle.pb_game_of_trees.proofs.Reading.{rest_none, before_token, before_first, read_small, read_tree}
use Rattle.pb_game_of_trees.specs.Numbering.{numbered_vertex}
use Rattle.pb_game_of_trees.proofs.builder.Builder.put_tree.Goals.{After-unwrap, After-unwrap-then-len-eq-ONE_LEAF, After-unwrap-token, After-unwrap-token-2}
use Rattle.pb_game_of_trees.proofs.builder.Builder.put_tree.Goals as goal

-- a tree of the same tokens fits as well
fits : {tokens : List Token} {next : ℕ} → (tree : Tree) × (tokens ≡ tree_tokens tree) × (inner tree < next) → (tree : Tree) → tokens ≡ tree_tokens tree → inner tree < next
fits {tokens} s tree e = omega (arith, s.2, inner_alike tokens s.0 tree s.1 e)

first_of : (o : Option Token) (before after : List Token) (t : Token) → o ≡ Some t → MatchOption o (before ≡ []) (λ first. before ≡ first ∷ after) → before ≡ t ∷ after
first_of o before after t some is = subst (λ (x : Option Token). MatchOption x (before ≡ []) (λ first. before ≡ first ∷ after)) some is

last_of : (o : Option Token) (before after : List Token) (t : Token) → o ≡ Some t → MatchOption o (before ≡ []) (λ last. before ≡ after ++ last ∷ []) → before ≡ after ++ t ∷ []
last_of o before after t some is = subst (λ (x : Option Token). MatchOption x (before ≡ []) (λ last. before ≡ after ++ last ∷ [])) some is

-- the last of the tokens that are left, at its place among all of them
at_last : (tokens before after taken : List Token) (t : Token) → tokens ≡ before ++ taken → before ≡ after ++ t ∷ [] → get_or tokens (length before - 1) token.And ≡ t
at_last tokens before after taken t whole ends =
    let place : length before - 1 ≡ length after = omega (arith, ap length ends, length-append after (t ∷ [])) in
    let all : tokens ≡ after ++ t ∷ taken = whole ∙ (ap (λ (xs : List Token). xs ++ taken) ends ∙ append_assoc after (t ∷ []) taken) in
    ap (λ (i : ℕ). get_or tokens i token.And) place
    ∙ (ap (λ (xs : List Token). get_or xs (length after) token.And) all ∙ get_or-append_seam after t taken token.And)

-- the first two tokens of a small tree
first : (c : After-unwrap) → c.unwrap.result ≡ get_or c.args.tokens 0 token.And
first c =
    let begins = first_of c.take_first.result c.args.tokens c.take_first.new.self c.unwrap.result c.unwrap.ensures c.take_first.ensures.taken in
    sym (ap (λ (xs : List Token). get_or xs 0 token.And) begins)

second : (c : After-unwrap-then-len-eq-ONE_LEAF) → c.unwrap-then-len-eq-ONE_LEAF.result ≡ get_or c.args.tokens 1 token.And
second c =
    let begins = first_of c.take_first.result c.args.tokens c.take_first.new.self c.unwrap.result c.unwrap.ensures c.take_first.ensures.taken in
    let goes_on =
    first_of c.take_first-then-len-eq-ONE_LEAF.result c.take_first.new.self c.take_first-then-len-eq-ONE_LEAF.new.self c.unwrap-then-len-eq-ONE_LEAF.result
    c.unwrap-then-len-eq-ONE_LEAF.ensures c.take_first-then-len-eq-ONE_LEAF.ensures.taken in
    sym (ap (λ (xs : List Token). get_or xs 1 token.And) (begins ∙ ap (λ (xs : List Token). c.unwrap.result ∷ xs) goes_on))

pub leaf_vertex-target-requires : goal.leaf_vertex-target-requires
leaf_vertex-target-requires c =
    let s = small_tree c.args.tokens token.And c.requires.spelled.0 c.requires.spelled.1 (omega (arith, c.if-len-eq-ONE_LEAF.true, c.len.ensures.value)) in
    (s.leaf, second c ∙ s.second)

pub returns-then-len-eq-ONE_LEAF : goal.returns-then-len-eq-ONE_LEAF
returns-then-len-eq-ONE_LEAF c =
    let at = numbered_vertex c.args.vertices.now in
    read_small at c.args.self.now c.one_edge.new.self token.And c.one_edge.result c.args.tokens c.args.priority c.leaf_vertex-target.result c.owner-owner.result c.one_edge.ensures
    (λ tree e.
    let s = small_tree c.args.tokens token.And tree e (omega (arith, c.if-len-eq-ONE_LEAF.true, c.len.ensures.value)) in
    small_edge at c.args.tokens token.And tree s c.owner-owner.result c.leaf_vertex-target.result
    (c.owner-owner.ensures ∙ ap owner_of (c.bracket_of.ensures s.joined (first (goal.at.returns-then-len-eq-ONE_LEAF c).After-unwrap ∙ s.first)))
    (c.leaf_vertex-target.ensures s.leaf (second (goal.at.returns-then-len-eq-ONE_LEAF c).After-unwrap-then-len-eq-ONE_LEAF ∙ s.second)))

pub loop-tokens-init : goal.loop-tokens-init
loop-tokens-init c =
    let s = c.requires.spelled in
    record {
      some = omega (arith, ap length s.1, length-tree_tokens s.0);
      left = ([], sym (append-nil c.args.tokens));
      read = λ tree behind limit e is.
          subst (λ (fs : List Operands). IsAt (numbered_vertex c.args.vertices.now) c.args.self.now fs behind limit) (sym (rest_none c.args.tokens tree e)) is;
    }

-- the last token that is left is read next
ends : (c : After-unwrap-token) → c.loop-tokens.tokens ≡ c.take_last.new.self ++ c.unwrap-token.result ∷ []
ends c = last_of c.take_last.result c.loop-tokens.tokens c.take_last.new.self c.unwrap-token.result c.unwrap-token.ensures c.take_last.ensures.taken

there : (c : After-unwrap-token) → get_or c.args.tokens (length c.loop-tokens.tokens - 1) token.And ≡ c.unwrap-token.result
there c =
    at_last c.args.tokens c.loop-tokens.tokens c.take_last.new.self c.loop-tokens.invariant.left.0 c.unwrap-token.result c.loop-tokens.invariant.left.1 (ends c)

-- the last one of all is the first of the tree
there_first : (c : After-unwrap-token-2) → get_or c.args.tokens (length c.loop-tokens.tokens - 1) token.And ≡ c.unwrap-token-2.result
there_first c =
    let last = last_of c.take_last-2.result c.loop-tokens.tokens c.take_last-2.new.self c.unwrap-token-2.result c.unwrap-token-2.ensures c.take_last-2.ensures.taken in
    at_last c.args.tokens c.loop-tokens.tokens c.take_last-2.new.self c.loop-tokens.invariant.left.0 c.unwrap-token-2.result c.loop-tokens.invariant.left.1 last

pub read-requires : goal.read-requires
read-requires c =
    let l = c.loop-tokens in
    let s = c.requires.spelled in
    let b = c.requires.before in (
      _,
      _,
      _,
      before_token c.args.tokens s.0 s.1 (length l.tokens) c.unwrap-token.result (there (goal.at.read-requires c).After-unwrap-token) b.2 s.2
          (l.invariant.read s.0 b.0 b.1 s.1 b.2) (omega (arith, c.loop-tokens-test.true, c.len-in-loop-tokens.ensures.value))
          (omega (arith, ap length l.invariant.left.1, length-append l.tokens l.invariant.left.0)),
    )

pub loop-tokens-preserved : goal.loop-tokens-preserved
loop-tokens-preserved c =
    let l = c.loop-tokens in
    let last = ends (goal.at.loop-tokens-preserved c).After-unwrap-token in
    let now = c.take_last.new.self in
    let t = c.unwrap-token.result in
    let taken = l.invariant.left.0 in
    let size : length l.tokens ≡ length now + 1 = omega (arith, ap length last, length-append now (t ∷ [])) in
    let more = c.loop-tokens-test.true in
    record {
      some = omega (arith, more, c.len-in-loop-tokens.ensures.value, size);
      left = (t ∷ taken, l.invariant.left.1 ∙ (ap (λ (xs : List Token). xs ++ taken) last ∙ append_assoc now (t ∷ []) taken));
      read = λ tree behind limit e is.
          let place : length l.tokens - 1 - 1 ≡ length now - 1 = omega (arith, size) in
          subst (λ (k : ℕ). IsAt (numbered_vertex c.args.vertices.now) c.read.new.self (rest_at k (opened tree)) behind limit) place
          (c.in_ok-read.ensures _ behind limit
          (before_token c.args.tokens tree e (length l.tokens) t (there (goal.at.loop-tokens-preserved c).After-unwrap-token) is
          (fits c.requires.spelled tree e) (l.invariant.read tree behind limit e is) (omega (arith, more, c.len-in-loop-tokens.ensures.value))
          (omega (arith, ap length l.invariant.left.1, length-append l.tokens taken))));
    }

pub read_first-requires : goal.read_first-requires
read_first-requires c =
    let l = c.loop-tokens in
    let s = c.requires.spelled in
    let b = c.requires.before in (
      _,
      _,
      _,
      before_first c.args.tokens s.0 s.1 (length l.tokens) c.unwrap-token-2.result (there_first (goal.at.read_first-requires c).After-unwrap-token-2) b.2 s.2
          (l.invariant.read s.0 b.0 b.1 s.1 b.2) (omega (arith, c.loop-tokens-test.false, c.len-in-loop-tokens.ensures.value)),
    )

pub returns : goal.returns
returns c =
    let l = c.loop-tokens in
    read_tree (numbered_vertex c.args.vertices.now) l.self c.read_first.new.self c.unwrap-token-2.result c.read_first.result c.args.self.now
    c.args.tokens c.args.priority c.read_first.ensures
    (λ tree behind limit e is. before_first c.args.tokens tree e (length l.tokens) c.unwrap-token-2.result (there_first (goal.at.returns c).After-unwrap-token-2) is
    (fits c.requires.spelled tree e) (l.invariant.read tree behind limit e is) (omega (arith, c.loop-tokens-test.false, c.len-in-loop-tokens.ensures.value)))
