-- Parity games (Zielonka 1998; Jurdzinski 2000): owners, priorities, successors. A player wins an
-- infinite play exactly where the greatest priority that occurs infinitely often has its parity.
use Rattle.std.specs.Prelude.{ℕ, ◌+◌, ◌<◌, ◌≤◌, ◌↔◌, List, length, slice_index, slice_index_or, Contains}
use Rattle.std.specs.List.Sorted.{IsStrictlyIncreasing}
use Rattle.pb_game.specs.declared.Game.{Game}
use Rattle.pb_fixpoint_trees.specs.declared.player.Player.{Player}
use Rattle.pb_fixpoint_trees.specs.declared.player.Player.TheVariants.{Even}
use Rattle.pb_game.specs.Adjacency.{row, greatest_of}
use Rattle.pb_base.specs.declared.limits.TheConstants.{MAX_PRIORITIES}
use Rattle.pb_game.specs.declared.limits.TheConstants.{MAX_GAME_VERTICES}

-- how many vertices there are; they are the numbers below
unfoldable pub vertex_count : Game → ℕ
vertex_count g = length g.owners.items

-- the player that moves at v
unfoldable pub owner_of : Game → ℕ → Player
owner_of g v = slice_index_or g.owners.items v Even

unfoldable pub priority_of : Game → ℕ → ℕ
priority_of g v = slice_index g.priorities.items v

-- the greatest priority of a vertex, 0 where there is none
unfoldable pub greatest_priority : Game → ℕ
greatest_priority g = greatest_of g.priorities.items

-- how many priorities there are from 0 up to the greatest
abbrev pub priority_count : Game → ℕ
priority_count g = greatest_priority g + 1

-- the successors of v, rising
unfoldable pub successors_of : Game → ℕ → List ℕ
successors_of g v = row g.places.items g.successors.items v

-- the predecessors of v, rising
unfoldable pub predecessors_of : Game → ℕ → List ℕ
predecessors_of g v = row g.predecessor_places.items g.predecessors.items v

-- an edge from v to u
abbrev pub HasEdge : Game → ℕ → ℕ → Type 0
HasEdge g v u = Contains (successors_of g v) u

-- What holds of each game. Module `proofs/Laws` proves it for every value of the type.
pub record IsGame (g : Game) : Type 0 where
  pub small : vertex_count g ≤ MAX_GAME_VERTICES
  pub greatest : (v : ℕ) → v < vertex_count g → priority_of g v ≤ greatest_priority g
  pub few_priorities : priority_count g ≤ MAX_PRIORITIES
  pub successor : (v : ℕ) → v < vertex_count g → (u : ℕ) × HasEdge g v u
  pub closed : (v u : ℕ) → v < vertex_count g → HasEdge g v u → u < vertex_count g
  pub rising : (v : ℕ) → v < vertex_count g → IsStrictlyIncreasing (successors_of g v)
  pub predecessor : (v u : ℕ) → v < vertex_count g → u < vertex_count g →
      Contains (predecessors_of g u) v ↔ HasEdge g v u
  pub predecessors_closed : (v u : ℕ) → u < vertex_count g → Contains (predecessors_of g u) v
      → v < vertex_count g
  pub predecessors_rising : (v : ℕ) → v < vertex_count g
      → IsStrictlyIncreasing (predecessors_of g v)
