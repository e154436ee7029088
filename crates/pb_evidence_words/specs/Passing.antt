-- How lines are come to, by way of those that pass on.
use Rattle.std.specs.Prelude.{◌≡◌, ℕ, suc, ◌<◌, ◌≤◌, Bool, true, false, List, [], ◌∷◌, length}
use Rattle.std.specs.Prelude.{slice_index, Contains}
use Rattle.pb_evidence_words.specs.declared.passing.Arrival.{Arrival}
use Rattle.pb_evidence.specs.ProofGraphs.{Graph}
use Rattle.pb_evidence_words.specs.Order.{has_edge, leads_back, parent_at, place_of}
use Rattle.pb_evidence_words.specs.WhyText.{Told, below_text, dependencies_at, origin_at, is_left_out}
use Rattle.pb_evidence_words.specs.WhyText.{follows}

-- so the line at k is come to
pub record IsArrival (t : Told) (k : ℕ) (arrival : Arrival) : Type 0 where
  pub origin : arrival.origin ≡ origin_at t k
  pub follows : arrival.follows ≡ follows t k
  pub passes : arrival.passes ≡ is_left_out t k

-- ---- what is left out

-- Nothing stands below a line that passes on: no edge, no call outside the ranges, no state.
abbrev pub NothingIsBelow : Type 0
NothingIsBelow = (t : Told) (k : ℕ) → is_left_out t k ≡ true → below_text t k ≡ []

-- An edge leads to a line that is written: no line that passes on is named by one.
abbrev pub EdgesLeadToWrittenLines : Type 0
EdgesLeadToWrittenLines =
    (t : Told) (k n : ℕ) → k < length t.graph.instances → Contains (dependencies_at t k) n
    → slice_index t.graph.instances (place_of t.graph n) ≡ n → has_edge t.graph k n ≡ true
    → is_left_out t (place_of t.graph n) ≡ false

-- each instance of a graph is listed once, and on each but the first one another rests
pub record IsListing (graph : Graph) : Type 0 where
  pub once : (k : ℕ) → k < length graph.instances
      → place_of graph (slice_index graph.instances k) ≡ k
  pub reached : (k : ℕ) → 0 < k → k < length graph.instances
      → parent_at graph k < length graph.instances

-- The line behind `from`, and the one that another follows, are written too.
abbrev pub OriginsAreWritten : Type 0
OriginsAreWritten =
    (t : Told) (k : ℕ) → IsListing t.graph → k < length t.graph.instances
    → is_left_out t (origin_at t k) ≡ false

-- ---- what goes round

-- Where lines are told to go round for ever, each rests on the next one alone.
abbrev pub LinesGoRound : Type 0
LinesGoRound =
    (graph : Graph) (cuts : List Bool) (j k : ℕ) → k < length graph.instances
    → leads_back graph cuts k j ≡ true → (m : ℕ) → j ≤ m → m < k
    → graph.dependencies (slice_index graph.instances m)
    ≡ slice_index graph.instances (suc m) ∷ []
