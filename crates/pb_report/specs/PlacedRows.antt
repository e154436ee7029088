-- The rows of a module's game, with the vertex of each.
use Rattle.std.specs.Prelude.{◌≡◌, ℕ, ◌<◌, List, length, Some}
use Rattle.pb_sorts.specs.Layout.{count_of}
use Rattle.pb_fixpoint_trees.specs.Row.{TokenRow}
use Rattle.pb_game.specs.declared.Game.{Game}
use Rattle.pb_game.specs.Games.{vertex_count, successors_of}
use Rattle.pb_bytecode.specs.Contents.{Contents}
use Rattle.pb_bytecode.specs.Meaning.{parameters}
use Rattle.pb_report.specs.VertexNames.{number_in, AreRising}

-- The game has vertices, and an edge from each. Each row has a vertex of its own, by rising number,
-- and tells of an instance of the module.
pub record ArePlacedRows (m : Contents) (game : Game) (vertices : List ℕ) (rows : List TokenRow)
    : Type 0 where
  pub some : 0 < vertex_count game
  pub edges : (v : ℕ) → v < vertex_count game → 0 < length (successors_of game v)
  pub lengths : length vertices ≡ length rows
  pub rising : AreRising vertices
  pub numbers : (v n : ℕ) → number_in vertices rows v ≡ Some n → n < count_of (parameters m)
