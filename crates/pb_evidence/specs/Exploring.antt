-- The graph that the winner's plays from a vertex give, over the vertices of instances.
use Rattle.std.specs.Prelude.{◌≡◌, ◌≢◌, ℕ, ◌+◌, ◌<◌, ◌≤◌, Bool, List, [], ◌∷◌, ◌++◌, length}
use Rattle.std.specs.Prelude.{slice_index, Contains, AllPairs}
use Rattle.pb_game.specs.declared.Game.{Game}
use Rattle.pb_game.specs.Adjacency.{row}
use Rattle.pb_game.specs.Games.{vertex_count}
use Rattle.pb_game.specs.declared.certificate.Solution.{Solution}
use Rattle.pb_game.specs.Solutions.{winner_of}
use Rattle.pb_evidence.specs.declared.exploration.DependencyGraph.{DependencyGraph}
use Rattle.pb_evidence.specs.Marks.{IsMarked}
use Rattle.pb_evidence.specs.BreadthFirst.{IsBreadthFirst}
use Rattle.pb_evidence.specs.Finding.{Gains}
use Rattle.pb_evidence.specs.Searching.{LeadsTo}

-- the next instance's vertex to which v leads can be u
pub record CanBeNext (g : Game) (s : Solution) (marks : List Bool) (v u : ℕ) : Type 0 where
  pub marked : IsMarked marks u
  pub leads : LeadsTo g s marks v u

-- the list has the instances' vertices to which v leads next, each once, and no others
pub record ListsNext (g : Game) (s : Solution) (marks : List Bool) (v : ℕ) (list : List ℕ)
    : Type 0 where
  pub some : (u : ℕ) → Contains list u → CanBeNext g s marks v u
  pub all : (u : ℕ) → CanBeNext g s marks v u → Contains list u
  pub apart : AllPairs (λ (u w : ℕ). u ≢ w) list

-- v was visited: its row stands behind the others, and what is in it was found
pub record Visits (g : Game) (s : Solution) (marks : List Bool) (v : ℕ) (old new : DependencyGraph)
    : Type 0 where
  pub list : List ℕ
  pub next : ListsNext g s marks v list
  pub listed : new.dependencies.items ≡ old.dependencies.items ++ list
  pub placed : new.places.items ≡ old.places.items ++ length new.dependencies.items ∷ []
  pub reached : Gains (λ u. CanBeNext g s marks v u) old.reached new.reached

-- the first k of the vertices that were found were visited
pub record IsExploring (g : Game) (s : Solution) (marks : List Bool) (start k : ℕ)
    (e : DependencyGraph)
    : Type 0 where
  pub width : length e.reached.marks.items ≡ vertex_count g
  pub bound : k ≤ length e.reached.vertices.items
  pub sized : length e.places.items ≡ k + 1
  pub first_place : slice_index e.places.items 0 ≡ 0
  pub last : slice_index e.places.items k ≡ length e.dependencies.items
  pub within : (j : ℕ) → j ≤ k → slice_index e.places.items j ≤ length e.dependencies.items
  pub ordered : (j : ℕ) → j < k → slice_index e.places.items j ≤ slice_index e.places.items (j + 1)
  pub rows : (j : ℕ) → j < k
      → ListsNext g s marks (slice_index e.reached.vertices.items j)
      (row e.places.items e.dependencies.items j)
  pub closed : (j u : ℕ) → j < k → Contains (row e.places.items e.dependencies.items j) u
      → Contains e.reached.vertices.items u
  pub ahead : IsBreadthFirst e.reached.vertices.items e.places.items e.dependencies.items k
  pub known : (u : ℕ) → Contains e.dependencies.items u → Contains e.reached.vertices.items u
  pub marked : (u : ℕ) → Contains e.reached.vertices.items u → IsMarked marks u
  pub won : (u : ℕ) → Contains e.reached.vertices.items u → winner_of s u ≡ winner_of s start
  pub some : 0 < length e.reached.vertices.items
  pub first : slice_index e.reached.vertices.items 0 ≡ start

-- all were visited
abbrev pub IsExplored : Game → Solution → List Bool → ℕ → DependencyGraph → Type 0
IsExplored g s marks start e = IsExploring g s marks start (length e.reached.vertices.items) e
