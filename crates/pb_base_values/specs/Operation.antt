-- The operations on whole numbers, and the interval of each at intervals of its operands (interval
-- arithmetic, Moore 1966).
use Rattle.std.specs.Prelude.{ℤ, pos, ◌+ℤ◌, ◌-ℤ◌, ◌*ℤ◌, neg_ℤ, int_le, unsigned_abs, Bool, true, false, if◌then◌else◌}
use Rattle.std.specs.Int.{int_min, int_max}
use Rattle.pb_base_values.specs.Division.{quotient, remainder}
use Rattle.pb_base_values.specs.Interval.{IntegerInterval}

pub data UnaryOperation : Type 0 where
  Negation Successor Predecessor AbsoluteValue : UnaryOperation

pub data BinaryOperation : Type 0 where
  Sum Difference Product Quotient Remainder Maximum Minimum : BinaryOperation

-- whether the second operand is a divisor, which must be at least 1
abbrev pub divides : BinaryOperation → Bool
divides Quotient = true
divides Remainder = true
divides _ = false

-- ---- values

abbrev pub unary_value : UnaryOperation → ℤ → ℤ
unary_value Negation a = neg_ℤ a
unary_value Successor a = a +ℤ pos 1
unary_value Predecessor a = a -ℤ pos 1
unary_value AbsoluteValue a = pos (unsigned_abs a)

abbrev pub binary_value : BinaryOperation → ℤ → ℤ → ℤ
binary_value Sum a b = a +ℤ b
binary_value Difference a b = a -ℤ b
binary_value Product a b = a *ℤ b
binary_value Quotient a b = quotient a b
binary_value Remainder a b = remainder a b
binary_value Maximum a b = int_max a b
binary_value Minimum a b = int_min a b

-- ---- intervals of one operand

abbrev pub negations : IntegerInterval → IntegerInterval
negations i = record { low = neg_ℤ i.high; high = neg_ℤ i.low }

abbrev pub successors : IntegerInterval → IntegerInterval
successors i = record { low = i.low +ℤ pos 1; high = i.high +ℤ pos 1 }

abbrev pub predecessors : IntegerInterval → IntegerInterval
predecessors i = record { low = i.low -ℤ pos 1; high = i.high -ℤ pos 1 }

abbrev pub absolute_values : IntegerInterval → IntegerInterval
absolute_values i =
    if int_le (pos 0) i.low then i
    else if int_le i.high (pos 0) then negations i
    else record { low = pos 0; high = int_max (neg_ℤ i.low) i.high }

-- ---- intervals of two operands

abbrev pub sums : IntegerInterval → IntegerInterval → IntegerInterval
sums i j = record { low = i.low +ℤ j.low; high = i.high +ℤ j.high }

abbrev pub differences : IntegerInterval → IntegerInterval → IntegerInterval
differences i j = record { low = i.low -ℤ j.high; high = i.high -ℤ j.low }

-- from the least to the greatest of four numbers
abbrev pub span_of_four : ℤ → ℤ → ℤ → ℤ → IntegerInterval
span_of_four a b c d =
    record { low = int_min (int_min a b) (int_min c d); high = int_max (int_max a b) (int_max c d) }

-- from the least to the greatest value of a function at the ends of two intervals
abbrev pub span_at_ends : (ℤ → ℤ → ℤ) → IntegerInterval → IntegerInterval → IntegerInterval
span_at_ends f i j =
    span_of_four (f i.low j.low) (f i.low j.high) (f i.high j.low) (f i.high j.high)

abbrev pub products : IntegerInterval → IntegerInterval → IntegerInterval
products i j = span_at_ends (λ a b. a *ℤ b) i j

abbrev pub quotients : IntegerInterval → IntegerInterval → IntegerInterval
quotients i j = span_at_ends quotient i j

-- a remainder is below its divisor, and no greater than a number that isn't below 0
abbrev pub remainders : IntegerInterval → IntegerInterval → IntegerInterval
remainders i j =
    record {
      low = pos 0;
      high = if int_le (pos 0) i.low then int_min i.high (j.high -ℤ pos 1) else j.high -ℤ pos 1;
    }

abbrev pub maxima : IntegerInterval → IntegerInterval → IntegerInterval
maxima i j = record { low = int_max i.low j.low; high = int_max i.high j.high }

abbrev pub minima : IntegerInterval → IntegerInterval → IntegerInterval
minima i j = record { low = int_min i.low j.low; high = int_min i.high j.high }

-- ---- the interval of each operation

abbrev pub unary_interval : UnaryOperation → IntegerInterval → IntegerInterval
unary_interval Negation i = negations i
unary_interval Successor i = successors i
unary_interval Predecessor i = predecessors i
unary_interval AbsoluteValue i = absolute_values i

abbrev pub binary_interval : BinaryOperation → IntegerInterval → IntegerInterval → IntegerInterval
binary_interval Sum i j = sums i j
binary_interval Difference i j = differences i j
binary_interval Product i j = products i j
binary_interval Quotient i j = quotients i j
binary_interval Remainder i j = remainders i j
binary_interval Maximum i j = maxima i j
binary_interval Minimum i j = minima i j
