-- To which vertices the winner's play from a vertex leads before it comes to another instance's
-- vertex. Marks stand at the vertices of instances.
use Rattle.std.specs.Prelude.{◌≡◌, ℕ, Bool, List, length, Contains}
use Rattle.pb_game.specs.declared.Game.{Game}
use Rattle.pb_game.specs.Games.{vertex_count, priority_of}
use Rattle.pb_game.specs.declared.certificate.Solution.{Solution}
use Rattle.pb_evidence.specs.Strategies.{IsKeptPath}
use Rattle.pb_evidence.specs.declared.found.FoundVertices.{FoundVertices}
use Rattle.pb_evidence.specs.Marks.{IsMarked}

-- v has priority 0, and is no instance's: a bracket's, or the true sink, which leads to itself
pub record IsOpen (g : Game) (marks : List Bool) (v : ℕ) : Type 0 where
  pub priority : priority_of g v ≡ 0
  pub unmarked : ¬ IsMarked marks v

-- kept edges lead from v over such vertices to u
abbrev pub LeadsTo : Game → Solution → List Bool → ℕ → ℕ → Type 0
LeadsTo g s marks v u = (over : List ℕ) × IsKeptPath g s (IsOpen g marks) v over u

-- the vertices to which v leads are found, and no others
pub record IsSearched (g : Game) (s : Solution) (marks : List Bool) (v : ℕ) (f : FoundVertices)
    : Type 0 where
  pub width : length f.marks.items ≡ vertex_count g
  pub some : (u : ℕ) → Contains f.vertices.items u → LeadsTo g s marks v u
  pub all : (u : ℕ) → LeadsTo g s marks v u → Contains f.vertices.items u
