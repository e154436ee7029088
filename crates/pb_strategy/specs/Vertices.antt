-- When a game is given by a list of vertices: the vertex of each number has the owner, the priority
-- and the successors of the list's element there.
use Rattle.std.specs.Prelude.{◌≡◌, ℕ, List, length, slice_get, Some}
use Rattle.pb_game.specs.declared.Game.{Game}
use Rattle.pb_game.specs.Games.{vertex_count, owner_of, priority_of, successors_of}
use Rattle.pb_fixpoint_trees.specs.Game.{Vertex}

-- v is such a vertex
pub record IsVertex (g : Game) (v : ℕ) (x : Vertex) : Type 0 where
  pub owner : owner_of g v ≡ x.owner
  pub priority : priority_of g v ≡ x.priority
  pub successors : successors_of g v ≡ x.successors

pub record HasVertices (g : Game) (vertices : List Vertex) : Type 0 where
  pub count : vertex_count g ≡ length vertices
  pub each : (v : ℕ) (x : Vertex) → slice_get vertices v ≡ Some x → IsVertex g v x
