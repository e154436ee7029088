-- Intervals of whole numbers (Moore 1966; as an abstract domain Cousot and Cousot 1977).
use Rattle.std.specs.Prelude.{ℤ, pos, negsuc, ◌≤ℤ◌, int_le, ◌&&◌, Bool, Option, Some, None, if◌then◌else◌}
use Rattle.std.specs.Int.{int_min, int_max}

-- the whole numbers from low to high, both included: none where high is below low
pub record IntegerInterval : Type 0 where
  pub low : ℤ
  pub high : ℤ

-- the value is one of the interval's
abbrev pub Includes : IntegerInterval → ℤ → Type 0
Includes i v = (i.low ≤ℤ v) × (v ≤ℤ i.high)

abbrev pub IsNonEmpty : IntegerInterval → Type 0
IsNonEmpty i = i.low ≤ℤ i.high

-- no end of the first lies outside the second
abbrev pub IsWithin : IntegerInterval → IntegerInterval → Type 0
IsWithin i outer = (outer.low ≤ℤ i.low) × (i.high ≤ℤ outer.high)

-- those two as tests
abbrev pub is_non_empty : IntegerInterval → Bool
is_non_empty i = int_le i.low i.high

abbrev pub is_included : IntegerInterval → IntegerInterval → Bool
is_included i outer = int_le outer.low i.low && int_le i.high outer.high

-- the interval, or none where it isn't within the limits (T10 of texts, V04 of code)
abbrev pub within : IntegerInterval → IntegerInterval → Option IntegerInterval
within limits i = if is_included i limits then Some i else None

-- the interval, or none where it is empty
abbrev pub unless_empty : IntegerInterval → Option IntegerInterval
unless_empty i = if is_non_empty i then Some i else None

-- ---- particular intervals

-- one value alone
abbrev pub singleton : ℤ → IntegerInterval
singleton v = record { low = v; high = v }

-- the numbers of 64 bits, from -2^63 to 2^63 - 1
abbrev pub words : IntegerInterval
words = record { low = negsuc 9223372036854775807; high = pos 9223372036854775807 }

-- the numbers from -2^62 to 2^62, the greatest literal of a text
abbrev pub literals : IntegerInterval
literals = record { low = negsuc 4611686018427387903; high = pos 4611686018427387904 }

-- ---- two intervals

-- the least interval that has the values of both
abbrev pub hull : IntegerInterval → IntegerInterval → IntegerInterval
hull i j = record { low = int_min i.low j.low; high = int_max i.high j.high }

-- the values of the first that the range has, too
abbrev pub cut : IntegerInterval → IntegerInterval → IntegerInterval
cut i range = record { low = int_max i.low range.low; high = int_min i.high range.high }
