-- What is claimed of division and of the intervals' rules, beside their definitions.
use Rattle.std.specs.Prelude.{◌≡◌, ℤ, pos, ◌+ℤ◌, ◌*ℤ◌, ◌≤ℤ◌, ◌<ℤ◌, true}
use Rattle.pb_base_values.specs.Interval.{IntegerInterval}
use Rattle.pb_base_values.specs.Operation.{BinaryOperation, divides}

-- q and r are the quotient and the remainder of a by b (Euclid): what is left is from 0 to below b
abbrev pub IsDivision : (a b q r : ℤ) → Type 0
IsDivision a b q r = (a ≡ q *ℤ b +ℤ r) × (pos 0 ≤ℤ r) × (r <ℤ b)

-- the operation may be used at second operands of the interval: no divisor is below 1
abbrev pub IsDefined : BinaryOperation → IntegerInterval → Type 0
IsDefined o j = divides o ≡ true → pos 1 ≤ℤ j.low
