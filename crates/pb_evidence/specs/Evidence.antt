-- What evidence is: a proof graph for the truth value of the initial instance, which stands first
-- in it.
use Rattle.std.specs.Prelude.{◌≡◌, ◌≢◌, ℕ, suc, ◌<◌, ◌==◌, Bool, List, [], ◌∷◌, length, slice_index}
use Rattle.std.specs.Prelude.{Contains, AllPairs, if◌then◌else◌}
use Rattle.pb_game.specs.declared.Game.{Game}
use Rattle.pb_game.specs.Adjacency.{row}
use Rattle.pb_fixpoint_trees.specs.Tree.{Tree}
use Rattle.pb_fixpoint_trees.specs.Equations.{Signature, solved}
use Rattle.pb_fixpoint_trees.specs.Game.{vertex_of}
use Rattle.pb_fixpoint_trees.specs.Rows.{Row, IsReached}
use Rattle.pb_strategy.specs.Meaning.{IsGameOfRows}
use Rattle.pb_evidence.specs.ProofGraphs.{Graph, IsProofGraph}
use Rattle.pb_evidence.specs.Supports.{RestsOnChoices}
use Rattle.pb_evidence.specs.declared.Evidence.{Evidence}
use Rattle.pb_evidence.specs.Marks.{IsMarked}
use Rattle.pb_evidence.specs.Nearest.{IsNearestFirst}

-- Marks stand at the vertices of the rows' instances alone, with the instances' numbers beside them
pub record AreNumbers (rows : List Row) (marks : List Bool) (numbers : List ℕ) : Type 0 where
  pub marked : (n : ℕ) → IsReached rows n → IsMarked marks (vertex_of rows n)
  pub number : (n : ℕ) → IsReached rows n → slice_index numbers (vertex_of rows n) ≡ n
  pub only : (v : ℕ) → IsMarked marks v → (n : ℕ) × IsReached rows n × (vertex_of rows n ≡ v)

-- the row of the first place, from k on, at which n stands
abbrev pub dependencies_from : List ℕ → List ℕ → List ℕ → ℕ → ℕ → List ℕ
dependencies_from [] places dependencies k n = []
dependencies_from (x ∷ xs) places dependencies k n =
    if x == n then row places dependencies k else dependencies_from xs places dependencies (suc k) n

-- its instances, each with its row of dependencies
abbrev pub graph_of : Evidence → Graph
graph_of e = record {
  instances = e.instances.items;
  dependencies = λ n. dependencies_from e.instances.items e.places.items e.dependencies.items 0 n;
}

-- e shows the truth of the system's instance n: by a proof graph in which each instance rests on
-- what one choice through its tree names, each named once
pub record Shows (signatures : List Signature) (trees : ℕ → Tree) (n : ℕ) (e : Evidence)
    : Type 0 where
  pub truth : e.truth ≡ solved signatures trees n
  pub graph : IsProofGraph signatures trees e.truth (graph_of e)
  pub choices : RestsOnChoices trees e.truth (graph_of e)
  pub initial : Contains e.instances.items n
  pub first : slice_index e.instances.items 0 ≡ n
  pub once : (i j : ℕ) → i < j → j < length e.instances.items
      → slice_index e.instances.items i ≢ slice_index e.instances.items j
  pub nearest : IsNearestFirst (graph_of e)
  pub each : (k : ℕ) → k < length e.instances.items
      → (graph_of e).dependencies (slice_index e.instances.items k)
      ≡ row e.places.items e.dependencies.items k
  pub apart : (k : ℕ) → k < length e.instances.items
      → AllPairs (λ (m p : ℕ). m ≢ p) (row e.places.items e.dependencies.items k)

-- of whatever system the game was built, e shows the truth of the instance whose vertex is `start`
abbrev pub IsEvidenceAt : Game → List Bool → List ℕ → ℕ → Evidence → Type 0
IsEvidenceAt g marks numbers start e =
    (signatures : List Signature) (trees : ℕ → Tree) (rows : List Row) →
    IsGameOfRows signatures trees rows g →
    AreNumbers rows marks numbers → (n : ℕ) → IsReached rows n → vertex_of rows n ≡ start
    → Shows signatures trees n e
