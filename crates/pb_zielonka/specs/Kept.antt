-- What a level's player has won of what is left, and keeps when the opponent wins a part.
use Rattle.std.specs.Prelude.{◌≡◌, ◌≢◌, ℕ, ◌+◌, ◌<◌, ◌≤◌, ◌⊎◌, Bool, List, length, Contains}
use Rattle.pb_fixpoint_trees.specs.declared.player.Player.{Player}
use Rattle.pb_game.specs.declared.Game.{Game}
use Rattle.pb_game.specs.Games.{vertex_count, owner_of, priority_of, HasEdge}
use Rattle.pb_game.specs.declared.certificate.Solution.{Solution}
use Rattle.pb_game.specs.Solutions.{winner_of, choice_of, count_of}
use Rattle.pb_game.specs.Certificates.{IsProgress}
use Rattle.pb_zielonka.specs.declared.scopes.TheConstants.{MAX_HEIGHT}
use Rattle.pb_zielonka.specs.declared.scopes.Standing.{Standing}
use Rattle.pb_zielonka.specs.Regions.{IsIn}

-- the player moves from v to u, or the opponent can
pub record StandsOn (g : Game) (s : Solution) (player : Player) (v u : ℕ) : Type 0 where
  pub edge : HasEdge g v u
  pub choice : owner_of g v ≡ player → choice_of s v ≡ u

-- the player has won v, as far as the kept vertices of priorities below `top` on which v stands
-- tell
pub record IsWonOn (g : Game) (left kept : List Bool) (s : Solution) (player : Player)
    (top v : ℕ) : Type 0 where
  pub winner : winner_of s v ≡ player
  pub choice : owner_of g v ≡ player → HasEdge g v (choice_of s v)
  pub positive : (below : ℕ) → below + 1 ≡ top → 0 < count_of g s v below
  pub progress : (u : ℕ) → StandsOn g s player v u → IsIn left u → IsIn kept u
      → priority_of g u ≢ top
      → IsProgress (count_of g s v) (count_of g s u) player (priority_of g v) (top + 1)

-- the count of v at the priority below the greatest is at most the height
abbrev pub IsHeightOn : Standing → ℕ → ℕ → Type 0
IsHeightOn standing v height = (below : ℕ) → below + 1 ≡ standing.top
    → count_of standing.game.now standing.solution.now v below ≤ height

-- the player has won what is kept
abbrev pub AreWonOn : Game → List Bool → List Bool → Solution → Player → ℕ → Type 0
AreWonOn g left kept s player top =
    (v : ℕ) → IsIn left v → IsIn kept v → priority_of g v ≢ top
    → IsWonOn g left kept s player top v

-- each vertex has a mark, and what is kept has choices, where the player moves
pub record HasChoices (standing : Standing) (kept : List Bool) : Type 0 where
  pub size : length kept ≡ vertex_count standing.game.now
  pub choice : (v : ℕ) → IsIn standing.region.now v → IsIn kept v
      → priority_of standing.game.now v ≢ standing.top
      → owner_of standing.game.now v ≡ standing.player
      → choice_of standing.solution.now v < vertex_count standing.game.now

-- nothing more is kept
abbrev pub IsFewer : List Bool → List Bool → Type 0
IsFewer old new = (v : ℕ) → IsIn new v → IsIn old v

-- each kept vertex of the region stands by itself, and what isn't kept is listed
pub record IsSiftedOn (standing : Standing) (kept : List Bool) (dropped : List ℕ) : Type 0 where
  pub size : length kept ≡ vertex_count standing.game.now
  pub below : (v : ℕ) → IsIn standing.region.now v → IsIn kept v
      → priority_of standing.game.now v ≢ standing.top
  pub choice : (v : ℕ) → IsIn standing.region.now v → IsIn kept v
      → owner_of standing.game.now v ≡ standing.player
      → IsIn standing.region.now (choice_of standing.solution.now v)
  pub height : (v : ℕ) → IsIn standing.region.now v → IsIn kept v
      → IsHeightOn standing v MAX_HEIGHT
  pub listed : (v : ℕ) → IsIn standing.region.now v → ¬ IsIn kept v
      → priority_of standing.game.now v ≢ standing.top → Contains dropped v
  pub vertices : (v : ℕ) → Contains dropped v → v < vertex_count standing.game.now

-- a step that drops vertices: what is kept then is sifted, and no more than before
pub record Sifts (standing : Standing) (old new : List Bool) (dropped : List ℕ) : Type 0 where
  pub sifted : IsSiftedOn standing new dropped
  pub fewer : IsFewer old new

-- no kept vertex of the region stands on u
abbrev pub IsClearedOn : Standing → List Bool → ℕ → Type 0
IsClearedOn standing kept u =
    (v : ℕ) → IsIn standing.region.now v → IsIn kept v
    → ¬ StandsOn standing.game.now standing.solution.now standing.player v u

-- what is attracted: what is kept, and the greatest priority
abbrev pub IsTargetOn : Standing → List Bool → ℕ → Type 0
IsTargetOn standing kept v = IsIn kept v ⊎ (priority_of standing.game.now v ≡ standing.top)

-- What stays kept is a part of what was: what it stands on in the region is kept too, or has the
-- greatest priority, and no count at the priority below is above the height.
pub record IsClosedOn (standing : Standing) (old new : List Bool) (height : ℕ) : Type 0 where
  pub size : length new ≡ vertex_count standing.game.now
  pub fewer : IsFewer old new
  pub below : (v : ℕ) → IsIn standing.region.now v → IsIn new v
      → priority_of standing.game.now v ≢ standing.top
  pub closed : (v u : ℕ) → IsIn standing.region.now v → IsIn new v
      → StandsOn standing.game.now standing.solution.now standing.player v u
      → IsIn standing.region.now u → IsTargetOn standing new u
  pub choice : (v : ℕ) → IsIn standing.region.now v → IsIn new v
      → owner_of standing.game.now v ≡ standing.player
      → IsIn standing.region.now (choice_of standing.solution.now v)
  pub high : (v : ℕ) → IsIn standing.region.now v → IsIn new v → IsHeightOn standing v height
  pub small : height ≤ MAX_HEIGHT
