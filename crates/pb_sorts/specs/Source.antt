-- What is read of a source whose bytes are known.
use Rattle.std.specs.Prelude.{◌≡◌, ℕ, ◌<◌, List, length, Option, Some, None, ⊤}

-- these are all the known bytes
abbrev pub IsWhole : Option (List ℕ) → List ℕ → Type 0
IsWhole None text = ⊤
IsWhole (Some known) text = text ≡ known

-- U02: more than n bytes are known
abbrev pub IsLongerThan : ℕ → Option (List ℕ) → Type 0
IsLongerThan n None = ⊤
IsLongerThan n (Some known) = n < length known
