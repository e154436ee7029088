-- What is built from the rows of a system, which have these trees.
use Rattle.std.proofs.Common.{◌≡◌, ℕ, ◌<◌, ◌≤◌, List, ◌∷◌, length, get_or, slice_index, Contains, ap, ◌∙◌, arith}
use Rattle.std.specs.List.Sorted.{IsStrictlyIncreasing}
use Rattle.std.proofs.lemmas.List.{get_or-map, length-map, get_or_default}
use Rattle.pb_fixpoint_trees.specs.Tree.{Tree}
use Rattle.pb_fixpoint_trees.specs.Equations.{Signature, total}
use Rattle.pb_fixpoint_trees.specs.Rows.{Row, IsReached}
use Rattle.pb_fixpoint_trees.specs.Game.{Vertex, vertex_of, priority_from, row_vertices, false_sink, true_sink, game_vertices}
use Rattle.pb_fixpoint_trees.specs.Laws.{GameIsTotal}
use Rattle.pb_fixpoint_trees.specs.Row.{TokenRow}
use Rattle.pb_fixpoint_trees.specs.Reached.{numbers_of, row_of, rows_of, AreRowsOf}
use Rattle.pb_game.specs.declared.limits.TheConstants.{MAX_GAME_VERTICES}
use Rattle.pb_game_of_trees.specs.Held.{Hold}
use Rattle.pb_game_of_trees.specs.declared.levels.Level.{Level}
use Rattle.pb_game_of_trees.specs.Draft.{MakeGame}
use Rattle.pb_game_of_trees.specs.Levels.{levels_from, priority_in}
use Rattle.pb_game_of_trees.specs.Places.{vertex_behind, numbers, IsSizeOf, ArePlacesOf}
use Rattle.pb_game_of_trees.proofs.Reached.{AreReached, found_row, reached_of}
use Rattle.pb_game_of_trees.proofs.EquationLevels.{priority_in-levels}
use Rattle.pb_game_of_trees.proofs.LowPriorities.{low_vertices}
use Rattle.pb_game_of_trees.proofs.Vertices.{none, IsTable, table_at, rows_same, length-row_vertices, length-vertices_from, fewer_rows, vertex_from-at, vertices_from-below}

module _ {signatures : List Signature} {trees : ℕ → Tree} {rows : List TokenRow} (of : AreRowsOf signatures trees rows) where
  abbrev reached : List Row
  reached = rows_of trees rows

  pub are : AreReached signatures trees rows (rows_of trees rows)
  are = reached_of trees signatures rows of

  pub hold : Hold rows (rows_of trees rows)
  hold = are.held

  pub count_vertices : {xs vertices : List ℕ} → xs ≡ vertices → ArePlacesOf rows vertices → length xs ≡ length rows
  count_vertices e places = ap length (e ∙ places reached hold) ∙ (length-vertices_from reached 2 ∙ length-map rows (row_of trees))

  number_below : (k : ℕ) → k < length reached → slice_index (numbers reached) k < total signatures
  number_below k l =
      let row = get_or reached k none in
      let below = of.system.below row (k, l, get_or_default reached k row none l) in
      omega (arith, below, get_or-map (λ (x : Row). x.number) reached k none 0 l)

  pub rows_numbered : {count : ℕ} → count ≡ total signatures → (plain : List Row) × Hold rows plain × IsStrictlyIncreasing (numbers plain)
      × ((k : ℕ) → k < length plain → slice_index (numbers plain) k < count)
  rows_numbered e = (reached, hold, are.rising, λ k l. omega (arith, number_below k l, e))

  pub rows_sized : {size : ℕ} → IsSizeOf rows size → (plain : List Row) × Hold rows plain × (size ≡ vertex_behind plain 2)
  rows_sized size = (reached, hold, size reached hold)

  pub built : {table : ℕ → ℕ} {levels : List Level} → IsTable table (rows_of trees rows) → levels ≡ levels_from 0 signatures →
      false_sink ∷ (true_sink ∷ row_vertices table (priority_in levels) (rows_of trees rows) 2) ≡ game_vertices signatures (rows_of trees rows)
  built {table} {levels} is e =
      ap (λ (xs : List Vertex). false_sink ∷ (true_sink ∷ xs))
      (rows_same table (vertex_of reached) (IsReached reached) (table_at table reached is are.rising) (priority_in levels) (priority_from 0 signatures)
      (λ n. ap (λ (ls : List Level). priority_in ls n) e ∙ priority_in-levels 0 signatures n) reached 2 of.system.closed)

  pub size_is : length (game_vertices signatures (rows_of trees rows)) ≡ vertex_behind (rows_of trees rows) 2
  size_is = omega (arith, length-row_vertices (vertex_of reached) (priority_from 0 signatures) reached 2)

  pub few_vertices : {size limit : ℕ} → IsSizeOf rows size → size ≤ limit → length (game_vertices signatures (rows_of trees rows)) ≤ limit
  few_vertices size small = omega (arith, size_is, small, size reached hold)

  -- the vertices of rows in a game of this size
  pub few_places : {size limit : ℕ} {vertices : List ℕ} → IsSizeOf rows size → size ≤ limit → ArePlacesOf rows vertices → length vertices ≤ limit
  few_places size small places =
      omega (arith, ap length (places reached hold), length-vertices_from reached 2, fewer_rows reached 2, small, size reached hold)

  pub places_below : {vertices : List ℕ} → ArePlacesOf rows vertices → (k d : ℕ) → k < length vertices →
      get_or vertices k d < length (game_vertices signatures (rows_of trees rows))
  places_below {vertices} places k d l =
      let e = places reached hold in
      let same = ap (λ (xs : List ℕ). get_or xs k d) e in
      omega (arith, same, vertices_from-below reached 2 k d (omega (arith, l, ap length e, length-vertices_from reached 2)), size_is)

  pub start_below : (n : ℕ) → Contains (numbers_of rows) n → vertex_of (rows_of trees rows) n < length (game_vertices signatures (rows_of trees rows))
  start_below n found =
      let is = found_row trees rows n found in
      let k = is.1.0 in
      let l : k < length reached = is.1.1 in
      let number : get_or (numbers reached) k 0 ≡ n =
      get_or-map (λ (x : Row). x.number) reached k is.0 0 l ∙ (ap (λ (x : Row). x.number) is.1.2 ∙ is.2) in
      let same = ap (λ (m : ℕ). vertex_of reached m) number in
      omega (arith, same, vertex_from-at reached 2 k are.rising l, vertices_from-below reached 2 k 0 l, size_is)

  pub makes_game : {size : ℕ} → GameIsTotal → length signatures < 256 → IsSizeOf rows size → size ≤ MAX_GAME_VERTICES → MakeGame (game_vertices signatures (rows_of trees rows))
  makes_game total_game few size small =
      let fits : vertex_behind reached 2 ≤ MAX_GAME_VERTICES = omega (arith, size reached hold, small) in
      record {
        few = omega (arith, size_is, fits);
        each = total_game signatures trees reached of.system;
        low = λ v x e. omega (arith, low_vertices signatures reached 255 (omega arith) (omega (arith, few)) v x e);
      }
