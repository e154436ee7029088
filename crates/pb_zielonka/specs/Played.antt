-- What a turn makes of what is left of a level: the front of its player, and what that player wins
-- of the rest, above the front.
use Rattle.std.specs.Prelude.{◌≡◌, ◌≢◌, ℕ, ◌+◌, ◌<◌, ◌≤◌, Bool, List, slice_index}
use Rattle.pb_fixpoint_trees.specs.Players.{opponent_of}
use Rattle.pb_fixpoint_trees.specs.declared.player.Player.{Player}
use Rattle.pb_game.specs.declared.Game.{Game}
use Rattle.pb_game.specs.Games.{vertex_count, owner_of, priority_of}
use Rattle.pb_game.specs.declared.certificate.Solution.{Solution}
use Rattle.pb_game.specs.Solutions.{winner_of, choice_of, count_of}
use Rattle.pb_game.specs.Certificates.{IsProgress}
use Rattle.pb_zielonka.specs.declared.attractor.Attractor.{Attractor}
use Rattle.pb_zielonka.specs.declared.scopes.Turn.{Turn}
use Rattle.pb_zielonka.specs.Regions.{IsIn, HasEdgeIn, IsWonPart}
use Rattle.pb_zielonka.specs.Changes.{IsSameAt}
use Rattle.pb_zielonka.specs.Levels.{IsCertifiedIn}
use Rattle.pb_zielonka.specs.Kept.{StandsOn}
use Rattle.pb_zielonka.specs.Turns.{IsFront}

-- Of rank 1 is what is kept, which is closed and whose counts are at most the height, and the
-- vertices of `top`; what was attracted has its rank above the height, and what the player wins of
-- the rest more than each of these.
pub record IsStandingAt (g : Game) (s : Solution) (left : List Bool) (a : Attractor)
    (player : Player) (top height v : ℕ) : Type 0 where
  pub winner : 0 < slice_index a.rank.items v → winner_of s v ≡ player
  pub first : slice_index a.rank.items v ≡ 1 → owner_of g v ≡ player
      → HasEdgeIn g left v (choice_of s v)
  pub closed : (u : ℕ) → slice_index a.rank.items v ≡ 1 → priority_of g v ≢ top
      → StandsOn g s player v u → IsIn left u → slice_index a.rank.items u ≡ 1
  pub progress : (u : ℕ) → slice_index a.rank.items v ≡ 1 → priority_of g v ≢ top
      → StandsOn g s player v u → IsIn left u → priority_of g u ≢ top
      → IsProgress (count_of g s v) (count_of g s u) player (priority_of g v) (top + 1)
  pub choice : 1 < slice_index a.rank.items v → choice_of s v ≡ slice_index a.choice.items v
  pub zero : (below : ℕ) → below + 1 ≡ top → slice_index a.rank.items v ≡ 1
      → priority_of g v ≡ top → count_of g s v below ≡ 0
  pub low : (below : ℕ) → below + 1 ≡ top → slice_index a.rank.items v ≡ 1
      → priority_of g v ≢ top → 0 < count_of g s v below
  pub most : (below : ℕ) → below + 1 ≡ top → slice_index a.rank.items v ≡ 1
      → count_of g s v below ≤ height
  pub count : (below : ℕ) → below + 1 ≡ top → 1 < slice_index a.rank.items v
      → count_of g s v below ≡ height + slice_index a.rank.items v
  pub high : (below : ℕ) → below + 1 ≡ top → IsIn left v → slice_index a.rank.items v ≡ 0
      → winner_of s v ≡ player → height + a.rounds < count_of g s v below

-- A turn in what is left: its player attracts the front, the rest has a certificate up to the
-- turn's priority, and `lost` is what the opponent wins of it. Nothing changes elsewhere.
pub record IsTurn (turn : Turn) (old new : Solution) (left : List Bool) (lost : List ℕ)
    : Type 0 where
  pub attractor : Attractor
  pub rest : List Bool
  pub height : ℕ
  pub front : IsFront turn.game.now left turn.player turn.top attractor rest
  pub stands : (v : ℕ) → v < vertex_count turn.game.now
      → IsStandingAt turn.game.now new left attractor turn.player turn.top height v
  pub certified : (v : ℕ) → IsIn rest v → IsCertifiedIn turn.game.now rest new turn.top v
  pub part : IsWonPart new lost rest (opponent_of turn.player)
  pub same : (v : ℕ) → v < vertex_count turn.game.now → ¬ IsIn left v
      → IsSameAt turn.game.now old new v
