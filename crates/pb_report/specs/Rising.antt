-- Numbers by rising order, in which one is searched for.
use Rattle.std.specs.Prelude.{ℕ, ◌<◌, ◌≤◌, List, length, slice_index}

-- none is above one behind it
abbrev pub IsRising : List ℕ → Type 0
IsRising ns = (i j : ℕ) → i ≤ j → j < length ns → slice_index ns i ≤ slice_index ns j
