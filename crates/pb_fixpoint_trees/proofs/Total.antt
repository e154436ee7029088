-- The game of rows is a game: each vertex has a successor, and no edge leads out of the game.
use Rattle.std.proofs.Common.{◌≡◌, ℕ, zero, suc, ◌+◌, ◌<◌, ◌≤◌, List, [], ◌∷◌, ◌++◌, length, Some, refl, ap, ◌∙◌, subst, inl, inr, arith, length-append}
use Rattle.std.specs.Prelude.{slice_get, ◌==◌}
use Rattle.std.proofs.lemmas.Bool.{cases_Bool, eqb-false, cond-true, cond-false}
use Rattle.pb_fixpoint_trees.specs.declared.player.Player.TheVariants.{Even}
use Rattle.pb_fixpoint_trees.specs.declared.junction.Junction.{Junction}
use Rattle.pb_fixpoint_trees.specs.declared.junction.Junction.TheVariants.{Conjunction, Disjunction}
use Rattle.pb_fixpoint_trees.specs.Tree.{Leaf, Yes, No, Cut, Call, Operands, End, LeafThen, BracketThen, Tree, Single, Root, LeafCalls, OperandsCall, TreeCalls}
use Rattle.pb_fixpoint_trees.specs.Equations.{Signature}
use Rattle.pb_fixpoint_trees.specs.Rows.{Row, IsReached, AreRows}
use Rattle.pb_fixpoint_trees.specs.Game.{Vertex, brackets, inner, vertex_from, vertex_of, priority_from, target, targets, sink_of, rising_or, bracket_vertex, inner_vertices, tree_vertices, row_vertices, game_vertices}
use Rattle.pb_fixpoint_trees.specs.Laws.{IsGameVertex, GameIsTotal, RowsHaveVertices}
use Rattle.pb_fixpoint_trees.proofs.Members.{Among, among_of_contains, contains_of_among, among_from_rising}
use Rattle.pb_fixpoint_trees.proofs.Rising.{rising_or-increasing, rising_or-some}
use Rattle.pb_fixpoint_trees.proofs.Lengths.{length-tree_vertices}

abbrev Each : {A : Type 0} → (A → Type 0) → List A → Type 0
Each P [] = Unit {0}
Each P (x ∷ xs) = P x × Each P xs

each-append : {A : Type 0} (P : A → Type 0) (xs ys : List A) → Each P xs → Each P ys → Each P (xs ++ ys)
each-append P [] ys h k = k
each-append P (x ∷ xs) ys h k = (h.0, each-append P xs ys h.1 k)

each-among : {A : Type 0} (P : A → Type 0) (xs : List A) → Each P xs → (x : A) → Among xs x → P x
each-among P [] h x among = absurd among
each-among P (y ∷ ys) h x (inl e) = subst P e h.0
each-among P (y ∷ ys) h x (inr later) = each-among P ys h.1 x later

each-at : {A : Type 0} (P : A → Type 0) (xs : List A) → Each P xs → (k : ℕ) (x : A) → slice_get xs k ≡ Some x → P x
each-at P [] h k x e = cc
each-at P (y ∷ ys) h zero x e = let is : y ≡ x = cc in subst P is h.0
each-at P (y ∷ ys) h (suc k) x e = each-at P ys h.1 k x e

-- a game of `count` vertices, of which the sinks are the first two, where each instance of the rows has a vertex
module _ (count : ℕ) (sinks : 2 ≤ count) (at : ℕ → ℕ) (Reached : ℕ → Type 0) (placed : (n : ℕ) → Reached n → at n < count) where
  target_below : (l : Leaf) → LeafCalls Reached l → target at l < count
  target_below Yes h = omega arith
  target_below No h = omega arith
  target_below Cut h = omega arith
  target_below (Call n) h = placed n h

  sink_below : (c : Junction) → sink_of c < count
  sink_below Conjunction = omega arith
  sink_below Disjunction = omega arith

  targets_below : (f : Operands) (next : ℕ) → OperandsCall Reached f → next + brackets f ≤ count → Each (λ w. w < count) (targets at f next)
  targets_below End next h fits = tt
  targets_below (LeafThen l after) next h fits = (target_below l h.0, targets_below after next h.1 fits)
  targets_below (BracketThen c inside after) next h fits = (omega arith, targets_below after (suc (next + brackets inside)) h.1 (omega arith))

  rising_or_below : (n : ℕ) (xs : List ℕ) → n < count → Each (λ w. w < count) xs → (w : ℕ) → Among (rising_or n xs) w → w < count
  rising_or_below n [] h each w (inl e) = omega arith
  rising_or_below n [] h each w (inr later) = absurd later
  rising_or_below n (x ∷ xs) h each w among = each-among (λ u. u < count) (x ∷ xs) each w (among_from_rising (x ∷ xs) w among)

  bracket_is : (p : ℕ) (c : Junction) (f : Operands) (next : ℕ) → OperandsCall Reached f → next + brackets f ≤ count → IsGameVertex count (bracket_vertex at p c f next)
  bracket_is p c f next h fits = record {
    some = rising_or-some (sink_of c) (targets at f next);
    rising = rising_or-increasing (sink_of c) (targets at f next);
    closed = λ w edge. rising_or_below (sink_of c) (targets at f next) (sink_below c) (targets_below f next h fits) w
        (among_of_contains (rising_or (sink_of c) (targets at f next)) w edge);
  }

  -- a vertex with one successor
  single_is : (p w : ℕ) → w < count → IsGameVertex count (record { owner = Even; priority = p; successors = w ∷ [] })
  single_is p w h = record {
    some = omega arith;
    rising = λ k l. absurd (omega arith);
    closed = λ u edge. elim (among_of_contains (w ∷ []) u edge) [ inl e ↦ omega arith | inr no' ↦ absurd no' ];
  }

  inner_are : (f : Operands) (next : ℕ) → OperandsCall Reached f → next + brackets f ≤ count → Each (IsGameVertex count) (inner_vertices at f next)
  inner_are End next h fits = tt
  inner_are (LeafThen l after) next h fits = inner_are after next h.1 fits
  inner_are (BracketThen c inside after) next h fits = (
    bracket_is 0 c inside (suc next) h.0 (omega arith),
    each-append (IsGameVertex count) (inner_vertices at inside (suc next)) (inner_vertices at after (suc (next + brackets inside)))
        (inner_are inside (suc next) h.0 (omega arith)) (inner_are after (suc (next + brackets inside)) h.1 (omega arith)),
  )

  tree_are : (p : ℕ) (tree : Tree) (next : ℕ) → TreeCalls Reached tree → suc (next + inner tree) ≤ count → Each (IsGameVertex count) (tree_vertices at p tree next)
  tree_are p (Single l) next h fits = (single_is p (target at l) (target_below l h), tt)
  tree_are p (Root c f) next h fits = (bracket_is p c f (suc next) h (omega arith), inner_are f (suc next) h (omega arith))

  rows_are : (priority : ℕ → ℕ) (rows : List Row) (next : ℕ) → ((row : Row) → Among rows row → TreeCalls Reached row.tree) →
      next + length (row_vertices at priority rows next) ≤ count → Each (IsGameVertex count) (row_vertices at priority rows next)
  rows_are priority [] next h fits = tt
  rows_are priority (row ∷ rows) next h fits =
      let here = tree_vertices at (priority row.number) row.tree next in
      let later = row_vertices at priority rows (suc (next + inner row.tree)) in
      let size : length here ≡ suc (inner row.tree) = length-tree_vertices at (priority row.number) row.tree next in
      let all : length (here ++ later) ≡ length here + length later = length-append here later in
      each-append (IsGameVertex count) here later
      (tree_are (priority row.number) row.tree next (h row (inl refl)) (omega arith))
      (rows_are priority rows (suc (next + inner row.tree)) (λ r among. h r (inr among)) (omega arith))

-- the vertex of a row stands within the rows' vertices
vertex_within : (at priority : ℕ → ℕ) (rows : List Row) (next n : ℕ) (row : Row) → Among rows row → row.number ≡ n →
    vertex_from rows next n < next + length (row_vertices at priority rows next)
vertex_within at priority [] next n row among e = absurd among
vertex_within at priority (first ∷ rows) next n row among e =
    let here = tree_vertices at (priority first.number) first.tree next in
    let later = row_vertices at priority rows (suc (next + inner first.tree)) in
    let size : length here ≡ suc (inner first.tree) = length-tree_vertices at (priority first.number) first.tree next in
    let all : length (here ++ later) ≡ length here + length later = length-append here later in
    elim (cases_Bool (first.number == n)) [
      | inl yes' ↦
          let place : vertex_from (first ∷ rows) next n ≡ next = cond-true (first.number == n) next (vertex_from rows (suc (next + inner first.tree)) n) yes' in
          omega arith
      | inr no' ↦
          let place : vertex_from (first ∷ rows) next n ≡ vertex_from rows (suc (next + inner first.tree)) n =
          cond-false (first.number == n) next (vertex_from rows (suc (next + inner first.tree)) n) no' in
          let among' : Among rows row = elim among [ inl is ↦ absurd (eqb-false first.number n no' (ap (λ (r : Row). r.number) is ∙ e)) | inr there ↦ there ] in
          let below = vertex_within at priority rows (suc (next + inner first.tree)) n row among' e in
          omega arith
    ]

pub rows_have_vertices : RowsHaveVertices
rows_have_vertices signatures rows row contained =
    let below = vertex_within (vertex_of rows) (priority_from 0 signatures) rows 2 row.number row (among_of_contains rows row contained) refl in
    omega arith

module _ (signatures : List Signature) (trees : ℕ → Tree) (rows : List Row) (are : AreRows signatures trees rows) where
  abbrev vertices : List Vertex
  vertices = game_vertices signatures rows

  placed : (n : ℕ) → IsReached rows n → vertex_of rows n < length vertices
  placed n reached = subst (λ m. vertex_of rows m < length vertices) reached.2 (rows_have_vertices signatures rows reached.0 reached.1)

  calls : (row : Row) → Among rows row → TreeCalls (IsReached rows) row.tree
  calls row among = are.closed row (contains_of_among rows row among)

  sinks : 2 ≤ length vertices
  sinks = omega arith

  all_are : Each (IsGameVertex (length vertices)) vertices
  all_are = (
    single_is (length vertices) sinks (vertex_of rows) (IsReached rows) placed 1 0 (omega arith),
    (
      single_is (length vertices) sinks (vertex_of rows) (IsReached rows) placed 0 1 (omega arith),
      rows_are (length vertices) sinks (vertex_of rows) (IsReached rows) placed (priority_from 0 signatures) rows 2 calls (omega arith),
    ),
  )

pub game_is_total : GameIsTotal
game_is_total signatures trees rows are v x e =
    each-at (IsGameVertex (length (game_vertices signatures rows))) (game_vertices signatures rows) (all_are signatures trees rows are) v x e
