-- Marks at the vertices of a game's instances, with the instances' numbers beside them.
use Rattle.std.specs.Prelude.{◌≡◌, ℕ, ◌<◌, Bool, List, slice_index, slice_index_or}
use Rattle.pb_fixpoint_trees.specs.Row.{TokenRow, nothing}
use Rattle.pb_evidence.specs.Marks.{IsMarked}

-- marks stand at the vertices of the first `done` rows alone, and beside each the number of its row
pub record AreMarked (vertices : List ℕ) (rows : List TokenRow) (done : ℕ) (marks : List Bool)
    (numbers : List ℕ) : Type 0 where
  pub marked : (k : ℕ) → k < done → IsMarked marks (slice_index vertices k)
  pub number : (k : ℕ) → k < done
      → slice_index numbers (slice_index vertices k) ≡ (slice_index_or rows k nothing).number
  pub only : (v : ℕ) → IsMarked marks v → (k : ℕ) × (k < done) × (slice_index vertices k ≡ v)
