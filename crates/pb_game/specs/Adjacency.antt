-- Directed graphs as flat lists: the successors of vertex v stand from place v to below place v +
-- 1.
use Rattle.std.specs.Prelude.{◌≡◌, ℕ, ◌+◌, ◌<◌, ◌≤◌, Bool, List, length, slice_index, slice_range, max, []}
use Rattle.std.specs.Prelude.{◌∷◌, ◌==◌}
use Rattle.std.specs.List.{list_any}
use Rattle.std.specs.List.Sorted.{IsStrictlyIncreasing}
use Rattle.pb_fixpoint_trees.specs.declared.player.Player.{Player}
use Rattle.pb_base.specs.declared.limits.TheConstants.{MAX_PRIORITIES}
use Rattle.pb_game.specs.declared.limits.TheConstants.{MAX_GAME_VERTICES}

-- the items of vertex v
abbrev pub row : List ℕ → List ℕ → ℕ → List ℕ
row places items v = slice_range items (slice_index places v) (slice_index places (v + 1))

-- whether x is in the list
abbrev pub is_among : List ℕ → ℕ → Bool
is_among xs x = list_any (λ y. y == x) xs

-- a row of rising vertices for each of `count` vertices
pub record IsRows (count : ℕ) (places items : List ℕ) : Type 0 where
  pub size : length places ≡ count + 1
  pub ordered : (v : ℕ) → v < count → slice_index places v ≤ slice_index places (v + 1)
  pub within : (v : ℕ) → v < count → slice_index places (v + 1) ≤ length items
  pub rising : (v : ℕ) → v < count → IsStrictlyIncreasing (row places items v)
  pub closed : (v : ℕ) → v < count → (k : ℕ) → k < length (row places items v)
      → slice_index (row places items v) k < count

-- the second rows are the first ones' edges turned round: v is in the row of u there exactly where
-- u is in the row of v here
abbrev pub IsReverse : ℕ → List ℕ → List ℕ → List ℕ → List ℕ → Type 0
IsReverse count places items reverse_places reverse_items =
    (v u : ℕ) → v < count → u < count →
    is_among (row reverse_places reverse_items u) v ≡ is_among (row places items v) u

-- the greatest element, or 0
abbrev pub greatest_of : List ℕ → ℕ
greatest_of [] = 0
greatest_of (x ∷ xs) = max x (greatest_of xs)

-- a parity game with vertices and priorities within the limits, each vertex with a successor, and
-- with its predecessors
pub record IsFlatGame (owners : List Player) (priorities : List ℕ) (greatest : ℕ)
    (places successors predecessor_places predecessors : List ℕ) : Type 0 where
  pub small : length owners ≤ MAX_GAME_VERTICES
  pub priority : length priorities ≡ length owners
  pub maximum : greatest ≡ greatest_of priorities
  pub few : greatest < MAX_PRIORITIES
  pub rows : IsRows (length owners) places successors
  pub total : (v : ℕ) → v < length owners → slice_index places v < slice_index places (v + 1)
  pub reverse_rows : IsRows (length owners) predecessor_places predecessors
  pub reverse : IsReverse (length owners) places successors predecessor_places predecessors
