-- The game of reached instances, with the vertices of instances.
use Rattle.std.specs.Prelude.{◌≡◌, ℕ, ◌<◌, ◌≤◌, ◌↔◌, List, Contains, Result, Err, length, map}
use Rattle.pb_base.specs.declared.or_memory.OrMemory.{OrMemory}
use Rattle.pb_base.specs.declared.or_memory.OrMemory.TheVariants.{Refused}
use Rattle.pb_fixpoint_trees.specs.Tree.{Tree}
use Rattle.pb_fixpoint_trees.specs.Equations.{Signature}
use Rattle.pb_fixpoint_trees.specs.Rows as plain
use Rattle.pb_fixpoint_trees.specs.Game.{vertex_of, game_vertices}
use Rattle.pb_fixpoint_trees.specs.Row.{TokenRow}
use Rattle.pb_fixpoint_trees.specs.Reached.{numbers_of, rows_of, AreRowsOf}
use Rattle.pb_sorts.specs.declared.counting.Counting.{Counting}
use Rattle.pb_game.specs.Games.{vertex_count}
use Rattle.pb_strategy.specs.Meaning.{IsGameOfRows}
use Rattle.pb_game_of_trees.specs.declared.tree_game.TooManyVertices.{TooManyVertices}
use Rattle.pb_game_of_trees.specs.declared.tree_game.TreeGame.{TreeGame}
use Rattle.pb_game_of_trees.specs.VertexLimit.{vertex_limit}

-- the game of reached instances, with the vertex of each and that of the initial one
pub record IsTreeGame (signatures : List Signature) (trees : ℕ → Tree) (reached : List plain.Row)
    (initial : ℕ) (built : TreeGame) : Type 0 where
  pub game : IsGameOfRows signatures trees reached built.game
  pub vertices : built.vertices.items
      ≡ map (λ (row : plain.Row). vertex_of reached row.number) reached
  pub start : built.start ≡ vertex_of reached initial

-- the rows are a system's, and some row has the initial instance
pub record AreRowsFrom (signatures : List Signature) (trees : ℕ → Tree) (rows : List TokenRow)
    (initial : ℕ) : Type 0 where
  pub are : AreRowsOf signatures trees rows
  pub found : Contains (numbers_of rows) initial

-- that is so with some trees
abbrev pub RowsHaveTrees : List Signature → List TokenRow → ℕ → Type 0
RowsHaveTrees signatures rows initial =
    (trees : ℕ → Tree) × AreRowsFrom signatures trees rows initial

-- with whichever trees that is so, it is the game of the rows
abbrev pub IsGameOf : List Signature → List TokenRow → ℕ → TreeGame → Type 0
IsGameOf signatures rows initial built =
    (trees : ℕ → Tree) → AreRowsFrom signatures trees rows initial
    → IsTreeGame signatures trees (rows_of trees rows) initial built

-- the game has no more vertices than it may have
abbrev pub KeepsVertexLimit : Counting → TreeGame → Type 0
KeepsVertexLimit counting built = vertex_count built.game ≤ vertex_limit counting

-- G01: the game of the rows has more vertices than it may have, by which instances count
abbrev pub HasTooManyVertices : Counting → List Signature → (ℕ → Tree) → List TokenRow → Type 0
HasTooManyVertices counting signatures trees rows =
    vertex_limit counting < length (game_vertices signatures (rows_of trees rows))

-- it is refused exactly where it is too large
abbrev pub IsRefusedExactly : {X : Type 0} → Counting → Result X (OrMemory TooManyVertices)
    → List Signature → List TokenRow → Type 0
IsRefusedExactly {X} counting result signatures rows =
    (trees : ℕ → Tree) → AreRowsOf signatures trees rows
    → (result ≡ Err (Refused (record {}))) ↔ HasTooManyVertices counting signatures trees rows
