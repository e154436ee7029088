-- What a sink has taken, where it tells it.
use Rattle.std.specs.Prelude.{ℕ, ◌<◌, List, length, take, Option}
use Rattle.std.specs.Io.KnownBytes.{Appends}

-- E02: known bytes grow by a part of bs that begins it and isn't the whole of it
abbrev pub AppendsPrefix : Option (List ℕ) → Option (List ℕ) → List ℕ → Type 0
AppendsPrefix old new bs = (n : ℕ) × (n < length bs) × Appends old new (take n bs)
