-- What the winners of a certificate mean where the game is that of a system's trees: an instance is
-- true in the nested solution exactly where Even wins its vertex (Mader 1997, for the games of
-- Boolean equation systems).
--
-- A contract that hands out a winner cites `IsSolvedAt`. The call of `winners_are_solved` proves it
-- of each certificate; `proofs/Winners` has `merely_solved`, the same for a certificate in a ghost
-- field.
use Rattle.std.specs.Prelude.{◌≡◌, ℕ, Bool, List, Contains}
use Rattle.pb_fixpoint_trees.specs.Players.{is_even}
use Rattle.pb_game.specs.declared.Game.{Game}
use Rattle.pb_game.specs.declared.certificate.Solution.{Solution}
use Rattle.pb_game.specs.Solutions.{winner_of}
use Rattle.pb_game.specs.Certificates.{IsCertificate}
use Rattle.pb_fixpoint_trees.specs.Tree.{Tree}
use Rattle.pb_fixpoint_trees.specs.Equations.{Signature, solved}
use Rattle.pb_fixpoint_trees.specs.Game.{game_vertices, vertex_of}
use Rattle.pb_fixpoint_trees.specs.Rows.{Row, AreRows}
use Rattle.pb_strategy.specs.Vertices.{HasVertices}

-- the game is that of these rows, which are the reached instances of the system with their trees
pub record IsGameOfRows (signatures : List Signature) (trees : ℕ → Tree) (rows : List Row)
    (g : Game) : Type 0 where
  pub reached : AreRows signatures trees rows
  pub vertices : HasVertices g (game_vertices signatures rows)

-- Of whatever system the game was built, the answer at a vertex is the truth in its solution of the
-- instance whose vertex it is.
abbrev pub IsSolvedAt : Game → ℕ → Bool → Type 0
IsSolvedAt g v answer =
    (signatures : List Signature) (trees : ℕ → Tree) (rows : List Row)
    → IsGameOfRows signatures trees rows g →
    (row : Row) → Contains rows row → vertex_of rows row.number ≡ v
    → answer ≡ solved signatures trees row.number

-- in a certificate, whether Even wins is such an answer at each vertex
abbrev pub WinnersAreSolved : Type 0
WinnersAreSolved =
    (g : Game) (s : Solution) → IsCertificate g s
    → (v : ℕ) → IsSolvedAt g v (is_even (winner_of s v))
