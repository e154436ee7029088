-- The vertices of the rows from one place to below another.
use Rattle.std.specs.Prelude.{◌≡◌, ℕ, List, take, slice_range}
use Rattle.pb_fixpoint_trees.specs.Rows.{Row}
use Rattle.pb_fixpoint_trees.specs.Row.{TokenRow}
use Rattle.pb_fixpoint_trees.specs.Game.{Vertex, row_vertices}
use Rattle.pb_game_of_trees.specs.declared.draft.Draft.{Draft}
use Rattle.pb_game_of_trees.specs.declared.row_range.RowRange.{RowRange}
use Rattle.pb_game_of_trees.specs.Draft.{IsDraft}
use Rattle.pb_game_of_trees.specs.Held.{Hold}
use Rattle.pb_game_of_trees.specs.Levels.{priority_in}
use Rattle.pb_game_of_trees.specs.Numbering.{numbered_vertex}
use Rattle.pb_game_of_trees.specs.Places.{vertex_behind}

-- some trees have these tokens
abbrev pub AreHeld : List TokenRow → Type 0
AreHeld rows = (plain : List Row) × Hold rows plain

-- the vertices of these rows: they begin behind those of the rows before
abbrev pub range_vertices : (ℕ → ℕ) → (ℕ → ℕ) → List Row → ℕ → ℕ → List Vertex
range_vertices at priority rows from to =
    row_vertices at priority (slice_range rows from to) (vertex_behind (take from rows) 2)

-- the draft holds the vertices of the range
abbrev pub HoldsRange : RowRange → Draft → Type 0
HoldsRange range draft =
    (plain : List Row) → Hold range.rows.now plain
    → IsDraft draft
    (range_vertices (numbered_vertex range.numbering.now) (priority_in range.levels.now.items.items)
    plain range.from range.to)

-- the part of a range from one place to below another
pub record IsPartOfRows (whole part : RowRange) (first last : ℕ) : Type 0 where
  pub levels : part.levels.now ≡ whole.levels.now
  pub numbering : part.numbering.now ≡ whole.numbering.now
  pub rows : part.rows.now ≡ whole.rows.now
  pub from : part.from ≡ first
  pub to : part.to ≡ last
