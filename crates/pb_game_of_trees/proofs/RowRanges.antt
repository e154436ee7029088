-- The vertices of rows from one place to below another: those of a range are those of its parts, one behind the other.
use Rattle.std.proofs.Common.{◌≡◌, ℕ, zero, suc, ◌+◌, ◌-◌, ◌<◌, ◌≤◌, List, [], ◌∷◌, ◌++◌, length, get_or, take, drop, slice_range, refl, sym, ap, ◌∙◌, subst, append_assoc, arith}
use Rattle.std.proofs.lemmas.List.{drop-drop, take_all}
use Rattle.std.specs.Prelude.{Result, Ok, Err, IfOk}
use Rattle.std.specs.declared.alloc.AllocError.{AllocError}
use Rattle.pb_fixpoint_trees.specs.Rows.{Row}
use Rattle.pb_fixpoint_trees.specs.Row.{TokenRow}
use Rattle.pb_fixpoint_trees.specs.Game.{Vertex, inner, tree_vertices, row_vertices}
use Rattle.pb_game_of_trees.specs.declared.draft.Draft.{Draft}
use Rattle.pb_game_of_trees.specs.declared.row_range.RowRange.{RowRange}
use Rattle.pb_game_of_trees.specs.Held.{Hold}
use Rattle.pb_game_of_trees.specs.Draft.{IsDraft}
use Rattle.pb_game_of_trees.specs.Levels.{priority_in}
use Rattle.pb_game_of_trees.specs.Numbering.{numbered_vertex}
use Rattle.pb_game_of_trees.specs.Places.{vertex_behind, vertices_from, ArePlacesOf, IsBehind, IsSizeOf}
use Rattle.pb_game_of_trees.specs.RowRanges.{range_vertices, HoldsRange, IsPartOfRows}
use Rattle.pb_game_of_trees.proofs.Rows.{IsNext, count_held, vertex_behind-append, drop_before}

-- ---- lists

take_on : (xs : List Row) (m n : ℕ) → take m xs ++ take n (drop m xs) ≡ take (m + n) xs
take_on xs zero n = let e : n ≡ zero + n = omega arith in ap (λ (k : ℕ). take k xs) e
take_on [] (suc m) n = take_all n [] (omega arith) ∙ sym (take_all (suc m + n) [] (omega arith))
take_on (x ∷ xs) (suc m) n =
    let e : suc (m + n) ≡ suc m + n = omega arith in
    ap (λ (ys : List Row). x ∷ ys) (take_on xs m n) ∙ ap (λ (k : ℕ). take k (x ∷ xs)) e

module _ (xs : List Row) (a b : ℕ) (rising : a ≤ b) where
  take_slice : take a xs ++ slice_range xs a b ≡ take b xs
  take_slice = let e : a + (b - a) ≡ b = omega (arith, rising) in take_on xs a (b - a) ∙ ap (λ (k : ℕ). take k xs) e

  slices : (c : ℕ) → b ≤ c → slice_range xs a b ++ slice_range xs b c ≡ slice_range xs a c
  slices c l =
      let e : a + (b - a) ≡ b = omega (arith, rising) in
      let f : (b - a) + (c - b) ≡ c - a = omega (arith, rising, l) in
      let here : drop b xs ≡ drop (b - a) (drop a xs) = sym (drop-drop (b - a) a xs ∙ ap (λ (k : ℕ). drop k xs) e) in
      ap (λ (ys : List Row). slice_range xs a b ++ take (c - b) ys) here
      ∙ (take_on (drop a xs) (b - a) (c - b) ∙ ap (λ (k : ℕ). take k (drop a xs)) f)

-- ---- where vertices begin

vertex_at : (rows : List Row) (next k d : ℕ) → k < length rows → get_or (vertices_from rows next) k d ≡ vertex_behind (take k rows) next
vertex_at [] next k d l = absurd (omega arith)
vertex_at (row ∷ rows) next zero d l = refl
vertex_at (row ∷ rows) next (suc k) d l = vertex_at rows (suc (next + inner row.tree)) k d (omega arith)

-- the vertex of a row is that behind the rows before
pub behind_at : (rows : List TokenRow) (vertices : List ℕ) (k d : ℕ) → ArePlacesOf rows vertices → k < length rows → IsBehind rows k (get_or vertices k d)
behind_at rows vertices k d places l = λ plain hold.
    ap (λ (ns : List ℕ). get_or ns k d) (places plain hold) ∙ vertex_at plain 2 k d (omega (arith, l, count_held plain hold))

-- and that behind all rows is as many as there are vertices
pub behind_all : {rows : List TokenRow} {size count next : ℕ} → IsSizeOf rows size → count ≡ length rows → next ≡ size → IsBehind rows count next
behind_all {rows} {size} {count} {next} is all same = λ plain hold.
    same ∙ (is plain hold ∙ ap (λ (xs : List Row). vertex_behind xs 2) (sym (take_all count plain (omega (arith, all, count_held plain hold)))))

-- ---- vertices

row_vertices-append : (at p : ℕ → ℕ) (xs ys : List Row) (next : ℕ) →
    row_vertices at p (xs ++ ys) next ≡ row_vertices at p xs next ++ row_vertices at p ys (vertex_behind xs next)
row_vertices-append at p [] ys next = refl
row_vertices-append at p (x ∷ xs) ys next =
    let later = suc (next + inner x.tree) in
    let here = tree_vertices at (p x.number) x.tree next in
    ap (λ (vs : List Vertex). here ++ vs) (row_vertices-append at p xs ys later)
    ∙ sym (append_assoc here (row_vertices at p xs later) (row_vertices at p ys (vertex_behind xs later)))

module _ (at p : ℕ → ℕ) (rows : List Row) where
  pub range_parts : (a b c : ℕ) → a ≤ b → b ≤ c → range_vertices at p rows a b ++ range_vertices at p rows b c ≡ range_vertices at p rows a c
  range_parts a b c l m =
      let n = vertex_behind (take a rows) 2 in
      let begins : vertex_behind (take b rows) 2 ≡ vertex_behind (slice_range rows a b) n =
      ap (λ (xs : List Row). vertex_behind xs 2) (sym (take_slice rows a b l)) ∙ vertex_behind-append (take a rows) (slice_range rows a b) 2 in
      ap (λ (k : ℕ). range_vertices at p rows a b ++ row_vertices at p (slice_range rows b c) k) begins
      ∙ (sym (row_vertices-append at p (slice_range rows a b) (slice_range rows b c) n)
      ∙ ap (λ (xs : List Row). row_vertices at p xs n) (slices rows a b l c m))

  pub range_whole : (first last : ℕ) → first ≡ 0 → last ≡ length rows → range_vertices at p rows first last ≡ row_vertices at p rows 2
  range_whole first last none all =
      let size : last - 0 ≡ last = omega arith in
      let whole : slice_range rows 0 last ≡ rows = ap (λ (k : ℕ). take k rows) size ∙ take_all last rows (omega (arith, all)) in
      ap (λ (k : ℕ). range_vertices at p rows k last) none ∙ ap (λ (xs : List Row). row_vertices at p xs 2) whole

-- with the vertices of a tree, those of one row more
module _ (plain : List Row) (k to : ℕ) (some : 0 < k) (inside : k ≤ to) (row : TokenRow) (n : IsNext plain (k - 1) row) where
  slice_before : slice_range plain (k - 1) to ≡ n.next ∷ slice_range plain k to
  slice_before =
      let e : to - (k - 1) ≡ suc (to - k) = omega (arith, some, inside) in
      ap (λ (xs : List Row). take (to - (k - 1)) xs) (drop_before plain k some row n) ∙ ap (λ (j : ℕ). take j (n.next ∷ drop k plain)) e

  pub range_before : (at p : ℕ → ℕ) (first limit : ℕ) {priority : ℕ} → priority ≡ p n.next.number → limit ≡ suc (first + inner n.next.tree) →
      tree_vertices at priority n.next.tree first ++ row_vertices at p (slice_range plain k to) limit ≡ row_vertices at p (slice_range plain (k - 1) to) first
  range_before at p first limit {priority} same begins =
      ap (λ (q : ℕ). tree_vertices at q n.next.tree first ++ row_vertices at p (slice_range plain k to) limit) same
      ∙ (ap (λ (m : ℕ). tree_vertices at (p n.next.number) n.next.tree first ++ row_vertices at p (slice_range plain k to) m) begins
      ∙ ap (λ (xs : List Row). row_vertices at p xs first) (sym slice_before))

-- ---- drafts

-- what a part holds, in the words of the whole
pub part_holds : (whole part : RowRange) (first last : ℕ) → IsPartOfRows whole part first last → (draft : Draft) → HoldsRange part draft → (plain : List Row) → Hold whole.rows.now plain →
    IsDraft draft (range_vertices (numbered_vertex whole.numbering.now) (priority_in whole.levels.now.items.items) plain first last)
part_holds whole part first last is draft holds plain hold =
    subst (λ n. IsDraft draft (range_vertices (numbered_vertex whole.numbering.now) (priority_in whole.levels.now.items.items) plain first n)) is.to
    (subst (λ n. IsDraft draft (range_vertices (numbered_vertex whole.numbering.now) (priority_in whole.levels.now.items.items) plain n part.to)) is.from
    (subst (λ ls. IsDraft draft (range_vertices (numbered_vertex whole.numbering.now) (priority_in ls.items.items) plain part.from part.to)) is.levels
    (subst (λ ns. IsDraft draft (range_vertices (numbered_vertex ns) (priority_in part.levels.now.items.items) plain part.from part.to)) is.numbering
    (holds plain (subst (λ rs. Hold rs plain) (sym is.rows) hold)))))

-- what `joined` gives
abbrev IsJoined : Result Draft AllocError → Result Draft AllocError → Result Draft AllocError → Type 0
IsJoined first second result =
    IfOk result (λ draft. (vertices others : List Vertex) → IfOk first (λ part. IsDraft part vertices) → IfOk second (λ part. IsDraft part others) → IsDraft draft (vertices ++ others))

held_alike : (whole part : RowRange) (first last : ℕ) → IsPartOfRows whole part first last → (found : Result Draft AllocError) → IfOk found (HoldsRange part) → (plain : List Row) →
    Hold whole.rows.now plain → IfOk found (λ draft. IsDraft draft (range_vertices (numbered_vertex whole.numbering.now) (priority_in whole.levels.now.items.items) plain first last))
held_alike whole part first last is (Ok draft) holds plain hold = part_holds whole part first last is draft holds plain hold
held_alike whole part first last is (Err error) holds plain hold = tt

pub parts_hold : (whole low high : RowRange) (middle : ℕ) → IsPartOfRows whole low whole.from middle → IsPartOfRows whole high middle whole.to →
    (first second : Result Draft AllocError) → IfOk first (HoldsRange low) → IfOk second (HoldsRange high) → (result : Result Draft AllocError) → IsJoined first second result →
    IfOk result (HoldsRange whole)
parts_hold whole low high middle l h first second f s (Err error) joined = tt
parts_hold whole low high middle l h first second f s (Ok draft) joined = λ plain hold.
    let at = numbered_vertex whole.numbering.now in
    let p = priority_in whole.levels.now.items.items in
    let a : whole.from ≤ middle = omega (arith, low.rising, l.from, l.to) in
    let b : middle ≤ whole.to = omega (arith, high.rising, h.from, h.to) in
    subst (IsDraft draft) (range_parts at p plain whole.from middle whole.to a b)
    (joined (range_vertices at p plain whole.from middle) (range_vertices at p plain middle whole.to) (held_alike whole low whole.from middle l first f plain hold)
    (held_alike whole high middle whole.to h second s plain hold))
