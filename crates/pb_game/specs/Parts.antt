-- What parts make a game, and what is wrong with those that don't.
use Rattle.std.specs.Prelude.{◌≡◌, ℕ, ◌+◌, ◌<◌, ◌≤◌, length, slice_index, slice_index_or, All}
use Rattle.std.specs.List.Sorted.{IsStrictlyIncreasing}
use Rattle.pb_game.specs.declared.Game.{Game}
use Rattle.pb_fixpoint_trees.specs.declared.player.Player.TheVariants.{Even}
use Rattle.pb_game.specs.declared.parts.Parts.{Parts}
use Rattle.pb_game.specs.declared.parts.GameFault.{GameFault}
use Rattle.pb_game.specs.declared.parts.GameFault.TheVariants.{TooManyVertices, Priorities, Places, Successors, TooManyPriorities}
use Rattle.pb_game.specs.Adjacency.{row}
use Rattle.pb_game.specs.Games.{vertex_count, owner_of, priority_of, successors_of}
use Rattle.pb_base.specs.declared.limits.TheConstants.{MAX_VERTICES, MAX_PRIORITIES}
use Rattle.pb_game.specs.declared.limits.TheConstants.{MAX_GAME_VERTICES}

-- G01: vertices within the limit of parts that a caller gives
abbrev pub HasFewVertices : Parts → Type 0
HasFewVertices p = length p.owners.items ≤ MAX_VERTICES

-- G03: one priority for each vertex
abbrev pub HasPriorities : Parts → Type 0
HasPriorities p = length p.priorities.items ≡ length p.owners.items

-- G04: one place for each vertex and one more, which begin at 0, rise, and end behind the last
-- successor
pub record HasPlaces (p : Parts) : Type 0 where
  pub size : length p.places.items ≡ length p.owners.items + 1
  pub first : slice_index p.places.items 0 ≡ 0
  pub rising : IsStrictlyIncreasing p.places.items
  pub last : slice_index p.places.items (length p.owners.items) ≡ length p.successors.items

-- G05: the successors of each vertex are vertices that rise
pub record HasSuccessors (p : Parts) : Type 0 where
  pub closed : All (λ u. u < length p.owners.items) p.successors.items
  pub rising : (v : ℕ) → v < length p.owners.items
      → IsStrictlyIncreasing (row p.places.items p.successors.items v)

-- G06: each priority is one of those from 0 on
abbrev pub HasFewPriorities : Parts → Type 0
HasFewPriorities p = All (λ priority. priority < MAX_PRIORITIES) p.priorities.items

-- parts that make a game
pub record AreGame (p : Parts) : Type 0 where
  pub few : length p.owners.items ≤ MAX_GAME_VERTICES
  pub priorities : HasPriorities p
  pub places : HasPlaces p
  pub successors : HasSuccessors p
  pub few_priorities : HasFewPriorities p

-- the first of the five that fails, in this order
abbrev pub Refuses : Parts → GameFault → Type 0
Refuses p TooManyVertices = ¬ HasFewVertices p
Refuses p Priorities = HasFewVertices p × ¬ HasPriorities p
Refuses p Places = HasFewVertices p × HasPriorities p × ¬ HasPlaces p
Refuses p Successors =
    HasFewVertices p × HasPriorities p × HasPlaces p × ¬ HasSuccessors p
Refuses p TooManyPriorities =
    HasFewVertices p × HasPriorities p × HasPlaces p × HasSuccessors p
    × ¬ HasFewPriorities p

-- the game has the parts' vertices
pub record IsGameOfParts (p : Parts) (g : Game) : Type 0 where
  pub parts : AreGame p
  pub vertices : vertex_count g ≡ length p.owners.items
  pub owner : (v : ℕ) → v < length p.owners.items
      → owner_of g v ≡ slice_index_or p.owners.items v Even
  pub priority : (v : ℕ) → v < length p.owners.items
      → priority_of g v ≡ slice_index p.priorities.items v
  pub successors : (v : ℕ) → v < length p.owners.items
      → successors_of g v ≡ row p.places.items p.successors.items v
