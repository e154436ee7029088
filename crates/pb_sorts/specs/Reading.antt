-- What was read of the input.
use Rattle.std.specs.Prelude.{ℕ, ◌≤◌, List, Option, length}
use Rattle.std.specs.Io.KnownBytes.{Consumes}

-- at most n bytes left the source, which is said where reading failed (E01)
abbrev pub ReadsAtMost : ℕ → Option (List ℕ) → Option (List ℕ) → Type 0
ReadsAtMost n old new = (bytes : List ℕ) × (length bytes ≤ n) × Consumes old new bytes
