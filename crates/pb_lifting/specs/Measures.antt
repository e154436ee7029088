-- Measures of a game for a player, and the least rank of a vertex over known ranks of its
-- successors.
use Rattle.std.specs.Prelude.{◌≡◌, ◌≢◌, ◌⊎◌, ℕ, zero, suc, ◌+◌, ◌%◌, ◌<◌, ◌≤◌, ◌==◌, if◌then◌else◌}
use Rattle.std.specs.Prelude.{List, length, slice_index}
use Rattle.pb_fixpoint_trees.specs.Players.{parity_of, is_same}
use Rattle.pb_fixpoint_trees.specs.declared.player.Player.TheVariants.{Even, Odd}
use Rattle.pb_fixpoint_trees.specs.declared.player.Player.{Player}
use Rattle.pb_game.specs.declared.Game.{Game}
use Rattle.pb_game.specs.Games.{vertex_count, owner_of, priority_of, successors_of, priority_count}
use Rattle.pb_game.specs.Games.{HasEdge}
use Rattle.pb_game.specs.Certificates.{IsProgress}
use Rattle.pb_lifting.specs.Radix.{unit, count_in, step_up, best}

-- how many of the first n vertices have the priority
abbrev pub vertices_upto : Game → ℕ → ℕ → ℕ
vertices_upto g q zero = 0
vertices_upto g q (suc n) =
    if priority_of g n == q then vertices_upto g q n + 1 else vertices_upto g q n

-- how many counts there are at a priority: only those of the other parity are counted
unfoldable pub base_of : Game → Player → ℕ → ℕ
base_of g player q = if q % 2 == parity_of player then 1 else vertices_upto g q (vertex_count g) + 1

-- the top rank, one above the greatest
unfoldable pub top_of : Game → Player → ℕ
top_of g player = unit (base_of g player) (priority_count g)

-- K06: the ranks, top counted, are more than a word has
abbrev pub HasTooManyRanks : Game → Player → Type 0
HasTooManyRanks g player = 18446744073709551615 < top_of g player + 1

abbrev pub SomeHasTooManyRanks : Game → Type 0
SomeHasTooManyRanks g = HasTooManyRanks g Even ⊎ HasTooManyRanks g Odd

-- the counts of a rank
abbrev pub counts_of : Game → Player → ℕ → ℕ → ℕ
counts_of g player rank = count_in (base_of g player) rank

-- u's rank is not top, and on an edge from v the counts make progress
abbrev pub FallsTo : Game → Player → List ℕ → ℕ → ℕ → Type 0
FallsTo g player ranks v u = (slice_index ranks u < top_of g player)
    × IsProgress (counts_of g player (slice_index ranks v))
    (counts_of g player (slice_index ranks u)) player (priority_of g v) (priority_count g)

-- towards some successor where the player moves, and towards every one where the other does
pub record Falls (g : Game) (player : Player) (ranks : List ℕ) (v : ℕ) : Type 0 where
  pub own : owner_of g v ≡ player → (u : ℕ) × HasEdge g v u × FallsTo g player ranks v u
  pub other : owner_of g v ≢ player → (u : ℕ) → HasEdge g v u → FallsTo g player ranks v u

pub record IsMeasure (g : Game) (player : Player) (ranks : List ℕ) : Type 0 where
  pub sized : length ranks ≡ vertex_count g
  pub ranked : (v : ℕ) → v < vertex_count g →
      (slice_index ranks v ≡ top_of g player)
      ⊎ ((slice_index ranks v < top_of g player) × Falls g player ranks v)

-- where the priority has the other parity the counts have to fall
abbrev pub more_of : Player → ℕ → ℕ
more_of player p = if p % 2 == parity_of player then 0 else 1

-- the least rank of v on an edge to a vertex of this rank
unfoldable pub asked : Game → Player → ℕ → ℕ → ℕ
asked g player v rank =
    step_up (unit (base_of g player) (priority_of g v)) (top_of g player)
    (more_of player (priority_of g v)) rank

-- what the j-th successor asks for
abbrev pub asked_by : Game → Player → List ℕ → ℕ → ℕ → ℕ
asked_by g player known v j =
    asked g player v (slice_index known (slice_index (successors_of g v) j))

-- the least rank of v over the known ranks of its successors
abbrev pub least_rank : Game → Player → List ℕ → ℕ → ℕ
least_rank g player known v =
    best (is_same (owner_of g v) player) (top_of g player) (asked_by g player known v)
    (length (successors_of g v))

-- each word is at most the rank of every measure
abbrev pub IsBelowAll : Game → Player → List ℕ → Type 0
IsBelowAll g player words =
    (m : List ℕ) → IsMeasure g player m → (v : ℕ) → slice_index words v ≤ slice_index m v

-- a word of v is at most v's rank in every measure
abbrev pub IsWithinAll : Game → Player → ℕ → ℕ → Type 0
IsWithinAll g player v word = (m : List ℕ) → IsMeasure g player m → word ≤ slice_index m v

-- no lift raises a word
abbrev pub IsFixed : Game → Player → List ℕ → Type 0
IsFixed g player words =
    (v : ℕ) → v < vertex_count g → least_rank g player words v ≤ slice_index words v

-- the ranks are a measure, and no measure is below them anywhere
abbrev pub IsLeastMeasure : Game → Player → List ℕ → Type 0
IsLeastMeasure g player words = IsMeasure g player words × IsBelowAll g player words

-- laws
abbrev pub LeastRankIsMonotone : Type 0
LeastRankIsMonotone =
    (g : Game) (player : Player) (known more : List ℕ)
    → ((v : ℕ) → slice_index known v ≤ slice_index more v)
    → (v : ℕ) → least_rank g player known v ≤ least_rank g player more v
