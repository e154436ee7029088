-- Certificates: winning regions, a positional strategy for each winner, and a progress measure
-- along whose kept edges no play is lost (Jurdzinski 2000, for both players).
use Rattle.std.specs.Prelude.{◌≡◌, ◌≢◌, ℕ, ◌%◌, ◌<◌, ◌≤◌, ◌⊎◌}
use Rattle.pb_game.specs.declared.Game.{Game}
use Rattle.pb_fixpoint_trees.specs.declared.player.Player.{Player}
use Rattle.pb_fixpoint_trees.specs.Players.{parity_of}
use Rattle.pb_game.specs.Games.{vertex_count, owner_of, priority_of, priority_count, HasEdge}
use Rattle.pb_game.specs.declared.certificate.Solution.{Solution}
use Rattle.pb_game.specs.Solutions.{winner_of, choice_of, count_of, HasLengths}

-- In the next three `from` and `to` are the counts, by priority, of the two ends of an edge that
-- leaves a vertex of priority p that `winner` wins. Priorities of the loser's parity from p up to
-- below `limit` matter, the highest first.

-- the counts decrease: the first that differs is lower at the end
pub record Decreases (from to : ℕ → ℕ) (winner : Player) (p limit : ℕ) : Type 0 where
  pub place : ℕ
  pub above : p ≤ place
  pub below : place < limit
  pub losing : place % 2 ≢ parity_of winner
  pub less : to place < from place
  pub same : (q : ℕ) → place < q → q < limit → q % 2 ≢ parity_of winner → to q ≡ from q

-- the counts are equal
pub record IsSame (from to : ℕ → ℕ) (winner : Player) (p limit : ℕ) : Type 0 where
  pub same : (q : ℕ) → p ≤ q → q < limit → q % 2 ≢ parity_of winner → to q ≡ from q

-- the counts don't increase, and decrease where p has the loser's parity
abbrev pub IsProgress : (ℕ → ℕ) → (ℕ → ℕ) → Player → ℕ → ℕ → Type 0
IsProgress from to winner p limit =
    Decreases from to winner p limit ⊎ ((p % 2 ≡ parity_of winner) × IsSame from to winner p limit)

-- an edge of a play in which the winner of v follows the strategy: where the winner moves the
-- choice, else any edge
pub record IsKept (g : Game) (s : Solution) (v u : ℕ) : Type 0 where
  pub edge : HasEdge g v u
  pub choice : owner_of g v ≡ winner_of s v → choice_of s v ≡ u

-- the rules that v meets
pub record IsCertifiedAt (g : Game) (s : Solution) (v : ℕ) : Type 0 where
  pub choice : owner_of g v ≡ winner_of s v → HasEdge g v (choice_of s v)
  pub region : (u : ℕ) → IsKept g s v u → winner_of s u ≡ winner_of s v
  pub progress : (u : ℕ) → IsKept g s v u →
      IsProgress (count_of g s v) (count_of g s u) (winner_of s v) (priority_of g v)
      (priority_count g)

-- each vertex has a winner with a strategy that stays in the winner's region, and along whose edges
-- the progress measure falls
pub record IsCertificate (g : Game) (s : Solution) : Type 0 where
  pub lengths : HasLengths g s
  pub vertices : (v : ℕ) → v < vertex_count g → IsCertifiedAt g s v
