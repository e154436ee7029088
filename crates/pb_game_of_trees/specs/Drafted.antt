-- The vertices of the game of reached instances, before it is one.
use Rattle.std.specs.Prelude.{◌≡◌, ℕ, ◌≤◌, List, length, map}
use Rattle.pb_fixpoint_trees.specs.Tree.{Tree}
use Rattle.pb_fixpoint_trees.specs.Equations.{Signature}
use Rattle.pb_fixpoint_trees.specs.Rows as plain
use Rattle.pb_fixpoint_trees.specs.Game.{vertex_of, game_vertices}
use Rattle.pb_fixpoint_trees.specs.Row.{TokenRow}
use Rattle.pb_fixpoint_trees.specs.Reached.{rows_of}
use Rattle.pb_sorts.specs.declared.counting.Counting.{Counting}
use Rattle.pb_bytecode.specs.Contents.{Contents}
use Rattle.pb_bytecode.specs.Meaning.{AreTrees, signature_of, initial_of}
use Rattle.pb_game_of_trees.specs.declared.drafted.DraftedGame.{DraftedGame}
use Rattle.pb_game_of_trees.specs.Draft.{IsDraft, MakeGame}
use Rattle.pb_game_of_trees.specs.TreeGame.{AreRowsFrom}
use Rattle.pb_game_of_trees.specs.VertexLimit.{vertex_limit}

-- the vertices of the game of reached instances, with that of each and that of the initial one
pub record IsDraftedGame (signatures : List Signature) (trees : ℕ → Tree)
    (reached : List plain.Row) (initial : ℕ) (drafted : DraftedGame) : Type 0 where
  pub system : plain.AreRows signatures trees reached
  pub draft : IsDraft drafted.draft (game_vertices signatures reached)
  pub game : MakeGame (game_vertices signatures reached)
  pub vertices : drafted.vertices.items
      ≡ map (λ (row : plain.Row). vertex_of reached row.number) reached
  pub start : drafted.start ≡ vertex_of reached initial

-- with whichever trees the rows are a system's, these are the vertices of their game
abbrev pub IsDraftOf : List Signature → List TokenRow → ℕ → DraftedGame → Type 0
IsDraftOf signatures rows initial drafted =
    (trees : ℕ → Tree) → AreRowsFrom signatures trees rows initial
    → IsDraftedGame signatures trees (rows_of trees rows) initial drafted

-- how many vertices there are
abbrev pub drafted_count : DraftedGame → ℕ
drafted_count drafted = length drafted.draft.owners.items

-- they are no more than a game may have
abbrev pub KeepsDraftLimit : Counting → DraftedGame → Type 0
KeepsDraftLimit counting drafted = drafted_count drafted ≤ vertex_limit counting

-- with whichever trees a module's instances have, these are the vertices of the game of its rows
abbrev pub IsModuleDraft : Contents → List TokenRow → DraftedGame → Type 0
IsModuleDraft m rows drafted =
    (trees : ℕ → Tree) → AreTrees m trees
    → IsDraftedGame (map signature_of m.equations) trees (rows_of trees rows) (initial_of m) drafted
