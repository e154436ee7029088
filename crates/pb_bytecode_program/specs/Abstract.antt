-- Abstract values: what is known of an operand (interval analysis, Cousot and Cousot 1977).
use Rattle.std.specs.Prelude.{◌≡◌, ◌<◌, ◌≤◌, Bool, true, false, ℤ, ◌≤ℤ◌, ◌==◌}
use Rattle.pb_sorts.specs.declared.carrier.Carrier.{Carrier}
use Rattle.pb_sorts.specs.declared.carrier.Carrier.TheVariants as carrier
use Rattle.pb_base_values.specs.Interval.{IntegerInterval}
use Rattle.pb_base_values.specs.Operation.{binary_interval, absolute_values}
use Rattle.pb_bytecode_program.specs.Values.{TaggedValue, BoolValue, IntValue, EnumValue, operation_of}
use Rattle.pb_bytecode_program.specs.declared.domain.AbstractValue.{AbstractValue}
use Rattle.pb_bytecode_program.specs.declared.domain.AbstractValue.TheVariants as abstract
use Rattle.pb_bytecode_program.specs.declared.instruction.Arithmetic.{Arithmetic}

-- the value is one of those that the abstract value stands for
abbrev pub IsAbstractedBy : TaggedValue → AbstractValue → Type 0
IsAbstractedBy (BoolValue b) abstract.Bool = Unit {0}
IsAbstractedBy (IntValue z) (abstract.Int l h) = (l ≤ℤ z) × (z ≤ℤ h)
IsAbstractedBy (EnumValue s i) (abstract.Enum t n) = (s ≡ t) × (i < n)
IsAbstractedBy _ _ = ⊥

-- the second stands for each value of the first, whose interval isn't empty
abbrev pub Covers : AbstractValue → AbstractValue → Type 0
Covers abstract.Bool abstract.Bool = Unit {0}
Covers (abstract.Int l h) (abstract.Int m k) = (m ≤ℤ l) × (l ≤ℤ h) × (h ≤ℤ k)
Covers (abstract.Enum s n) (abstract.Enum t m) = (s ≡ t) × (n ≤ m)
Covers _ _ = ⊥

-- what is known of a carrier's values
abbrev pub abstraction_of : Carrier → AbstractValue
abstraction_of carrier.Bool = abstract.Bool
abstraction_of (carrier.Enum enum) = abstract.Enum enum.sort enum.count
abstraction_of (carrier.Range range) = abstract.Int range.low range.high

abbrev pub same_kind : AbstractValue → AbstractValue → Bool
same_kind abstract.Bool abstract.Bool = true
same_kind (abstract.Int l h) (abstract.Int m k) = true
same_kind (abstract.Enum s n) (abstract.Enum t m) = s == t
same_kind _ _ = false

-- ---- intervals of results

abbrev pub between : ℤ → ℤ → IntegerInterval
between l h = record { low = l; high = h }

abbrev pub ends : IntegerInterval → ℤ × ℤ
ends i = (i.low, i.high)

-- the interval of the results for a first operand in l..h and a second one in m..k
abbrev pub interval_of : Arithmetic → ℤ → ℤ → ℤ → ℤ → ℤ × ℤ
interval_of c l h m k = ends (binary_interval (operation_of c) (between l h) (between m k))

abbrev pub absolute_interval : ℤ → ℤ → ℤ × ℤ
absolute_interval l h = ends (absolute_values (between l h))
