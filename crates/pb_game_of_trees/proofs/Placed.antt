-- The vertices of instances are vertices of the game.
use Rattle.std.proofs.Common.{◌≡◌, ℕ, zero, suc, ◌<◌, List, [], ◌∷◌, length, get_or, Some, Contains, ap, ◌∙◌, arith}
use Rattle.std.specs.Prelude.{slice_get}
use Rattle.std.proofs.lemmas.List.{get_or-map, length-map}
use Rattle.std.proofs.lemmas.Option.{get_or_from_slice_get}
use Rattle.pb_fixpoint_trees.specs.Tree.{Tree}
use Rattle.pb_fixpoint_trees.specs.Equations.{Signature}
use Rattle.pb_fixpoint_trees.specs.Rows.{Row}
use Rattle.pb_fixpoint_trees.specs.Game.{vertex_of}
use Rattle.pb_game.specs.Games.{vertex_count}
use Rattle.pb_game_of_trees.specs.declared.tree_game.TreeGame.{TreeGame}
use Rattle.pb_game_of_trees.specs.TreeGame.{IsTreeGame}

module _ (signatures : List Signature) (trees : ℕ → Tree) (reached : List Row) (initial : ℕ) (built : TreeGame) (is : IsTreeGame signatures trees reached initial built) where
  pub row_vertex : (k : ℕ) (row : Row) → slice_get reached k ≡ Some row → k < length reached → get_or built.vertices.items k 0 ≡ vertex_of reached row.number
  row_vertex k row e l =
      ap (λ (xs : List ℕ). get_or xs k 0) is.vertices
      ∙ (get_or-map (λ (x : Row). vertex_of reached x.number) reached k row 0 l
      ∙ ap (λ (x : Row). vertex_of reached x.number) (get_or_from_slice_get reached k row row e))

  pub count_rows : length built.vertices.items ≡ length reached
  count_rows = ap length is.vertices ∙ length-map reached (λ (x : Row). vertex_of reached x.number)

  pub row_within : (row : Row) → Contains reached row → vertex_of reached row.number < vertex_count built.game
  row_within row contains =
      let k = contains.0 in
      let l : k < length reached = contains.1 in
      let inside = built.rows_inside k 0 (omega (arith, l, count_rows)) in
      let at : get_or built.vertices.items k 0 ≡ vertex_of reached row.number =
      ap (λ (xs : List ℕ). get_or xs k 0) is.vertices
      ∙ (get_or-map (λ (x : Row). vertex_of reached x.number) reached k row 0 l ∙ ap (λ (x : Row). vertex_of reached x.number) contains.2) in
      omega arith

pub within_rows : (rows : List Row) (k : ℕ) (row : Row) → slice_get rows k ≡ Some row → k < length rows
within_rows [] k row e = cc
within_rows (x ∷ rows) zero row e = omega arith
within_rows (x ∷ rows) (suc k) row e = omega (arith, within_rows rows k row e)

pub contained : (rows : List Row) (k : ℕ) (row : Row) → slice_get rows k ≡ Some row → Contains rows row
contained rows k row e = (k, within_rows rows k row e, get_or_from_slice_get rows k row row e)
