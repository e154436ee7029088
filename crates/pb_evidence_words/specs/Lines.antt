-- What the program keeps of the order of lines, and what it needs of evidence for it.
use Rattle.std.specs.Prelude.{◌≡◌, ◌≢◌, ℕ, ◌<◌, nat_eq, Bool, List, length, slice_index}
use Rattle.std.specs.Prelude.{Some, Contains}
use Rattle.std.specs.HashMap.{get, HashMap}
use Rattle.pb_game.specs.Adjacency.{row}
use Rattle.pb_evidence.specs.ProofGraphs.{RestsOn, RestsThrough}
use Rattle.pb_evidence.specs.ProofGraphs.{Graph}
use Rattle.pb_evidence.specs.declared.Evidence.{Evidence}
use Rattle.pb_evidence.specs.Evidence.{graph_of}
use Rattle.pb_evidence_words.specs.Order.{last_caller_at, parent_at, run_start, sole_parent_at}
use Rattle.pb_evidence_words.specs.declared.lines.Lines.{Lines}

-- evidence whose instances stand once each, each with its row, and are what the first leads to
pub record HasLines (e : Evidence) : Type 0 where
  pub once : (i j : ℕ) → i < j → j < length e.instances.items
      → slice_index e.instances.items i ≢ slice_index e.instances.items j
  pub each : (k : ℕ) → k < length e.instances.items
      → (graph_of e).dependencies (slice_index e.instances.items k)
      ≡ row e.places.items e.dependencies.items k
  pub closed : (n m : ℕ) → RestsOn (graph_of e) n m → ∥ Contains e.instances.items m ∥₁
  pub reached : (k : ℕ) → 0 < k → k < length e.instances.items
      → ∥ ((over : List ℕ)
      × RestsThrough (graph_of e) (slice_index e.instances.items 0) over
      (slice_index e.instances.items k)) ∥₁

-- each number is found at its place
abbrev pub ArePlaces : {S : Type 0} → List ℕ → HashMap ℕ ℕ S → Type 0
ArePlaces numbers places =
    (k : ℕ) → k < length numbers → get nat_eq places (slice_index numbers k) ≡ Some k

-- the lines of a graph, of which these rest on a cut call
pub record AreLinesOf (graph : Graph) (cuts : List Bool) (lines : Lines) : Type 0 where
  pub places : ArePlaces graph.instances lines.places
  pub parents_sized : length lines.parents.items ≡ length graph.instances
  pub parents : (k : ℕ) → k < length graph.instances
      → slice_index lines.parents.items k ≡ parent_at graph k
  pub starts_sized : length lines.starts.items ≡ length graph.instances
  pub starts : (k : ℕ) → k < length graph.instances
      → slice_index lines.starts.items k ≡ run_start (sole_parent_at graph cuts) k
  pub lasts_sized : length lines.lasts.items ≡ length graph.instances
  pub lasts : (k : ℕ) → k < length graph.instances
      → slice_index lines.lasts.items k ≡ last_caller_at graph k
