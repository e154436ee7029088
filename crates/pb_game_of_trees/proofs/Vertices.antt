-- The table of vertices by number gives each reached instance its vertex, so the game that is built from it is that of the rows.
use Rattle.std.proofs.Common.{◌≡◌, ℕ, zero, suc, ◌+◌, ◌<◌, ◌≤◌, List, [], ◌∷◌, ◌++◌, length, get_or, map, slice_index, Contains, refl, sym, ap, ◌∙◌, add-one, inl, inr, length-append, arith}
use Rattle.std.specs.Prelude.{◌==◌}
use Rattle.std.specs.List.Sorted.{IsStrictlyIncreasing}
use Rattle.std.proofs.lemmas.Bool.{cases_Bool, eqb-true, eqb-false, cond-true, cond-false}
use Rattle.std.proofs.lemmas.List.{get_or-map, length-map, get_or_default, same_lists}
use Rattle.pb_game.proofs.Rising.{rising_lt}
use Rattle.pb_fixpoint_trees.specs.declared.player.Player.TheVariants.{Even}
use Rattle.pb_fixpoint_trees.specs.declared.junction.Junction.{Junction}
use Rattle.pb_fixpoint_trees.specs.Tree.{Leaf, Yes, No, Cut, Call, Operands, End, LeafThen, BracketThen, Tree, Single, Root, LeafCalls, OperandsCall, TreeCalls}
use Rattle.pb_fixpoint_trees.specs.Rows.{Row, IsReached}
use Rattle.pb_fixpoint_trees.specs.Game.{Vertex, brackets, inner, vertex_from, vertex_of, target, targets, rising_or, sink_of, owner_of, bracket_vertex, inner_vertices, tree_vertices, row_vertices}
use Rattle.pb_fixpoint_trees.proofs.Lengths.{length-tree_vertices}
use Rattle.pb_game_of_trees.specs.Places.{vertex_behind, vertices_from, numbers}

-- ---- vertices of numbers

tail : (x : ℕ) (xs : List ℕ) → IsStrictlyIncreasing (x ∷ xs) → IsStrictlyIncreasing xs
tail x xs h k l = rw (add-one k) (rw (add-one (suc k)) at (rw (add-one k) at (h (k + 1) (omega arith))))

-- the vertex of a row's number is the row's
pub vertex_from-at : (rows : List Row) (next k : ℕ) → IsStrictlyIncreasing (numbers rows) → k < length rows →
    vertex_from rows next (get_or (numbers rows) k 0) ≡ get_or (vertices_from rows next) k 0
vertex_from-at [] next k r l = absurd (omega arith)
vertex_from-at (row ∷ rows) next zero r l = elim (cases_Bool (row.number == row.number)) [
  | inl e ↦ cond-true (row.number == row.number) next (vertex_from rows (suc (next + inner row.tree)) row.number) e
  | inr e ↦ absurd (eqb-false row.number row.number e refl)
]
vertex_from-at (row ∷ rows) next (suc k) r l =
    let n = get_or (numbers rows) k 0 in
    let size : length (numbers rows) ≡ length rows = length-map rows (λ (x : Row). x.number) in
    let less : row.number < n = rising_lt (numbers (row ∷ rows)) r 0 (suc k) (omega arith) (omega arith) in
    elim (cases_Bool (row.number == n)) [
      | inl e ↦ let same : row.number ≡ n = eqb-true row.number n e in absurd (omega arith)
      | inr e ↦
          cond-false (row.number == n) next (vertex_from rows (suc (next + inner row.tree)) n) e
          ∙ vertex_from-at rows (suc (next + inner row.tree)) k (tail row.number (numbers rows) r) (omega arith)
    ]

abbrev pub none : Row
none = record { number = 0; tree = Single No }

pub length-vertices_from : (rows : List Row) (next : ℕ) → length (vertices_from rows next) ≡ length rows
length-vertices_from [] next = refl
length-vertices_from (row ∷ rows) next = ap suc (length-vertices_from rows (suc (next + inner row.tree)))

-- each row has a vertex of its own
pub fewer_rows : (rows : List Row) (next : ℕ) → next + length rows ≤ vertex_behind rows next
fewer_rows [] next = omega arith
fewer_rows (row ∷ rows) next = let rest = fewer_rows rows (suc (next + inner row.tree)) in omega (arith, rest)

-- and these are below those behind all rows
pub vertices_from-below : (rows : List Row) (next k d : ℕ) → k < length rows → get_or (vertices_from rows next) k d < vertex_behind rows next
vertices_from-below [] next k d l = absurd (omega arith)
vertices_from-below (row ∷ rows) next zero d l = omega (arith, fewer_rows rows (suc (next + inner row.tree)))
vertices_from-below (row ∷ rows) next (suc k) d l = vertices_from-below rows (suc (next + inner row.tree)) k d (omega arith)

-- the vertices of all rows
pub vertices_are : (rows : List Row) → IsStrictlyIncreasing (numbers rows) → vertices_from rows 2 ≡ map (λ (row : Row). vertex_of rows row.number) rows
vertices_are rows r =
    let f = λ (row : Row). vertex_of rows row.number in
    let size : length (vertices_from rows 2) ≡ length rows = length-vertices_from rows 2 in
    let mapped : length (map f rows) ≡ length rows = length-map rows f in
    same_lists (vertices_from rows 2) (map f rows) (size ∙ sym mapped) (λ k d l.
    let x : Row = get_or rows k none in
    let number : get_or (numbers rows) k 0 ≡ x.number = get_or-map (λ (row : Row). row.number) rows k none 0 (omega arith) in
    get_or_default (vertices_from rows 2) k d 0 l ∙ (sym (vertex_from-at rows 2 k r (omega arith))
    ∙ (ap (λ (n : ℕ). vertex_of rows n) number ∙ sym (get_or-map f rows k none d (omega arith)))))

-- a table that has each row's vertex at its number
pub record IsTable (table : ℕ → ℕ) (rows : List Row) : Type 0 where
  pub at : (k : ℕ) → k < length rows → table (slice_index (numbers rows) k) ≡ slice_index (vertices_from rows 2) k

pub table_at : (table : ℕ → ℕ) (rows : List Row) → IsTable table rows → IsStrictlyIncreasing (numbers rows) → (n : ℕ) → IsReached rows n → table n ≡ vertex_of rows n
table_at table rows is r n reached =
    let k = reached.1.0 in
    let l = reached.1.1 in
    let row = reached.0 in
    let number : get_or (numbers rows) k 0 ≡ n =
    get_or-map (λ (x : Row). x.number) rows k row 0 l ∙ (ap (λ (x : Row). x.number) reached.1.2 ∙ reached.2) in
    sym (ap table number) ∙ (is.at k l ∙ (sym (vertex_from-at rows 2 k r l) ∙ ap (λ (m : ℕ). vertex_of rows m) number))

-- ---- one game by two functions that agree on what is called

module _ (at at' : ℕ → ℕ) (R : ℕ → Type 0) (same : (n : ℕ) → R n → at n ≡ at' n) where
  target_same : (l : Leaf) → LeafCalls R l → target at l ≡ target at' l
  target_same Yes h = refl
  target_same No h = refl
  target_same Cut h = refl
  target_same (Call n) h = same n h

  targets_same : (f : Operands) (next : ℕ) → OperandsCall R f → targets at f next ≡ targets at' f next
  targets_same End next h = refl
  targets_same (LeafThen l after) next h =
      ap (λ (u : ℕ). u ∷ targets at after next) (target_same l h.0) ∙ ap (λ (us : List ℕ). target at' l ∷ us) (targets_same after next h.1)
  targets_same (BracketThen c inside after) next h = ap (λ (us : List ℕ). next ∷ us) (targets_same after (suc (next + brackets inside)) h.1)

  bracket_same : (p : ℕ) (c : Junction) (f : Operands) (next : ℕ) → OperandsCall R f → bracket_vertex at p c f next ≡ bracket_vertex at' p c f next
  bracket_same p c f next h =
      ap (λ (us : List ℕ). let x : Vertex = record { owner = owner_of c; priority = p; successors = rising_or (sink_of c) us } in x) (targets_same f next h)

  inner_same : (f : Operands) (next : ℕ) → OperandsCall R f → inner_vertices at f next ≡ inner_vertices at' f next
  inner_same End next h = refl
  inner_same (LeafThen l after) next h = inner_same after next h.1
  inner_same (BracketThen c inside after) next h =
      ap (λ (x : Vertex). x ∷ (inner_vertices at inside (suc next) ++ inner_vertices at after (suc (next + brackets inside)))) (bracket_same 0 c inside (suc next) h.0)
      ∙ (ap (λ (xs : List Vertex). bracket_vertex at' 0 c inside (suc next) ∷ (xs ++ inner_vertices at after (suc (next + brackets inside)))) (inner_same inside (suc next) h.0)
      ∙ ap (λ (xs : List Vertex). bracket_vertex at' 0 c inside (suc next) ∷ (inner_vertices at' inside (suc next) ++ xs)) (inner_same after (suc (next + brackets inside)) h.1))

  tree_same : (p : ℕ) (tree : Tree) (next : ℕ) → TreeCalls R tree → tree_vertices at p tree next ≡ tree_vertices at' p tree next
  tree_same p (Single l) next h =
      ap (λ (u : ℕ). let x : Vertex = record { owner = Even; priority = p; successors = u ∷ [] } in x ∷ []) (target_same l h)
  tree_same p (Root c f) next h =
      ap (λ (x : Vertex). x ∷ inner_vertices at f (suc next)) (bracket_same p c f (suc next) h)
      ∙ ap (λ (xs : List Vertex). bracket_vertex at' p c f (suc next) ∷ xs) (inner_same f (suc next) h)

  pub rows_same : (p q : ℕ → ℕ) → ((n : ℕ) → p n ≡ q n) → (rows : List Row) (next : ℕ) → ((row : Row) → Contains rows row → TreeCalls R row.tree) →
      row_vertices at p rows next ≡ row_vertices at' q rows next
  rows_same p q e [] next h = refl
  rows_same p q e (row ∷ rows) next h =
      let later = suc (next + inner row.tree) in
      ap (λ (xs : List Vertex). xs ++ row_vertices at p rows later) (tree_same (p row.number) row.tree next (h row (0, omega arith, refl)))
      ∙ (ap (λ (n : ℕ). tree_vertices at' n row.tree next ++ row_vertices at p rows later) (e row.number)
      ∙ ap (λ (xs : List Vertex). tree_vertices at' (q row.number) row.tree next ++ xs)
      (rows_same p q e rows later (λ x c. let l = c.1 in h x (suc c.0, omega arith, c.2))))

-- ---- how many vertices there are

pub length-row_vertices : (at p : ℕ → ℕ) (rows : List Row) (next : ℕ) → next + length (row_vertices at p rows next) ≡ vertex_behind rows next
length-row_vertices at p [] next = omega arith
length-row_vertices at p (row ∷ rows) next =
    let here = tree_vertices at (p row.number) row.tree next in
    let later = row_vertices at p rows (suc (next + inner row.tree)) in
    let size : length here ≡ suc (inner row.tree) = length-tree_vertices at (p row.number) row.tree next in
    let all : length (here ++ later) ≡ length here + length later = length-append here later in
    omega (arith, length-row_vertices at p rows (suc (next + inner row.tree)))
