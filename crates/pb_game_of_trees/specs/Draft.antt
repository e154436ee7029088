-- Flat lists that stand for vertices.
use Rattle.std.specs.Prelude.{◌≡◌, ℕ, ◌-◌, ◌<◌, ◌≤◌, List, [], ◌∷◌, length, map, reverse, slice_get}
use Rattle.std.specs.Prelude.{Some}
use Rattle.std.specs.List.{flat_map}
use Rattle.pb_fixpoint_trees.specs.Game.{Vertex}
use Rattle.pb_fixpoint_trees.specs.Laws.{IsGameVertex}
use Rattle.pb_fixpoint_trees.specs.declared.player.Player.{Player}
use Rattle.pb_base.specs.declared.limits.TheConstants.{MAX_PRIORITIES}
use Rattle.pb_game.specs.declared.limits.TheConstants.{MAX_GAME_VERTICES}
use Rattle.pb_game.specs.declared.parts.Parts.{Parts}
use Rattle.pb_game_of_trees.specs.declared.draft.Draft.{Draft}

abbrev pub owners : List Vertex → List Player
owners vertices = map (λ (x : Vertex). x.owner) vertices

abbrev pub priorities : List Vertex → List ℕ
priorities vertices = map (λ (x : Vertex). x.priority) vertices

-- the successors of all vertices
abbrev pub all_successors : List Vertex → List ℕ
all_successors vertices = flat_map (λ (x : Vertex). x.successors) vertices

-- how many edges leave each vertex and those behind it, and behind the last one 0
abbrev pub edge_sums : List Vertex → List ℕ
edge_sums [] = 0 ∷ []
edge_sums (x ∷ vertices) = length (all_successors (x ∷ vertices)) ∷ edge_sums vertices

-- the draft holds these vertices, the last first
pub record IsDraft (draft : Draft) (vertices : List Vertex) : Type 0 where
  pub owner : draft.owners.items ≡ reverse (owners vertices)
  pub priority : draft.priorities.items ≡ reverse (priorities vertices)
  pub edges : draft.edges.items ≡ reverse (edge_sums vertices)
  pub successor : draft.successors.items ≡ reverse (all_successors vertices)

-- where the successors of each vertex begin, and behind these the number of all edges
abbrev pub places : List Vertex → List ℕ
places vertices = map (λ n. length (all_successors vertices) - n) (edge_sums vertices)

-- the parts stand for these vertices
pub record ArePartsOf (parts : Parts) (vertices : List Vertex) : Type 0 where
  pub owner : parts.owners.items ≡ owners vertices
  pub priority : parts.priorities.items ≡ priorities vertices
  pub place : parts.places.items ≡ places vertices
  pub successor : parts.successors.items ≡ all_successors vertices

-- the vertices are those of a game, with priorities within their limit
pub record MakeGame (vertices : List Vertex) : Type 0 where
  pub few : length vertices ≤ MAX_GAME_VERTICES
  pub each : (v : ℕ) (x : Vertex) → slice_get vertices v ≡ Some x → IsGameVertex (length vertices) x
  pub low : (v : ℕ) (x : Vertex) → slice_get vertices v ≡ Some x → x.priority < MAX_PRIORITIES
