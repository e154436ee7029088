-- The lines of evidence, one for each of its instances: where they stand, and which line each comes
-- from.
use Rattle.std.specs.Prelude.{ℕ, zero, suc, ◌==◌, nat_le, Bool, false, not, ◌&&◌, ◌||◌}
use Rattle.std.specs.Prelude.{if◌then◌else◌, List, [], ◌∷◌, length, slice_index, slice_index_or}
use Rattle.std.specs.List.{position_or_len}
use Rattle.pb_game.specs.Adjacency.{is_among}
use Rattle.pb_evidence.specs.ProofGraphs.{Graph}

-- the place of an instance's line, from 0 on
abbrev pub place_of : Graph → ℕ → ℕ
place_of graph n = position_or_len (λ x. x == n) graph.instances

-- the place of the first line that rests on an instance
abbrev pub parent_of : Graph → ℕ → ℕ
parent_of graph n = position_or_len (λ x. is_among (graph.dependencies x) n) graph.instances

-- the line that the line at a place comes from: the first that rests on its instance
abbrev pub parent_at : Graph → ℕ → ℕ
parent_at graph k = parent_of graph (slice_index graph.instances k)

-- the place of the last of the first m lines that rest on an instance; no line's, where none does
abbrev pub last_below : Graph → ℕ → ℕ → ℕ
last_below graph n zero = length graph.instances
last_below graph n (suc m) =
    if is_among (graph.dependencies (slice_index graph.instances m)) n then m
    else last_below graph n m

-- the last line that rests on the instance of the line at a place
abbrev pub last_caller_at : Graph → ℕ → ℕ
last_caller_at graph k =
    last_below graph (slice_index graph.instances k) (length graph.instances)

-- the line at a place rests on one instance, and on no cut call, as is said of each line
abbrev pub rests_on_one : Graph → List Bool → ℕ → Bool
rests_on_one graph cuts k =
    not (slice_index_or cuts k false)
    && (length (graph.dependencies (slice_index graph.instances k)) == 1)

-- the line that the line at a place comes from, where that rests on it alone; else no line's place
abbrev pub sole_parent_at : Graph → List Bool → ℕ → ℕ
sole_parent_at graph cuts k =
    if rests_on_one graph cuts (parent_at graph k) then parent_at graph k
    else length graph.instances

-- Lines that come each from the one before are a run. This is the place of the first line of the
-- longest run that ends at a place, the line being given that each comes from.
abbrev pub run_start : (ℕ → ℕ) → ℕ → ℕ
run_start parent zero = 0
run_start parent (suc k) = if parent (suc k) == k then run_start parent k else suc k

-- From the line at j, which isn't behind, to the one at k each rests on the next one alone, and the
-- one at k on one alone too: where that is j's, the truth of all of them rests on going round.
abbrev pub leads_back : Graph → List Bool → ℕ → ℕ → Bool
leads_back graph cuts k j =
    rests_on_one graph cuts k
    && (nat_le j k && nat_le (run_start (sole_parent_at graph cuts) k) j)

-- An instance that a line rests on has an edge below the line where it is the first line's, or
-- where its line comes from another one.
abbrev pub has_edge : Graph → ℕ → ℕ → Bool
has_edge graph k n = (place_of graph n == 0) || not (parent_of graph n == k)

-- of what the line at k rests on there is one instance, that of the next line, which comes from it
abbrev pub leads_on : Graph → ℕ → List ℕ → Bool
leads_on graph k (n ∷ []) = (place_of graph n == suc k) && not (has_edge graph k n)
leads_on graph k ns = false
