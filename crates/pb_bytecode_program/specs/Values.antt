-- Operands with their kinds, the values of a carrier, and arithmetic on whole numbers without
-- bound.
use Rattle.std.specs.Prelude.{ℕ, Bool, true, false, not, ◌&&◌, ◌||◌, List, [], ◌∷◌, map, Option, Some, None, ℤ, pos, int_lt, int_le, ◌==◌, nat_lt, if◌then◌else◌, unsigned_abs}
use Rattle.std.specs.Ordering.{int_eq}
use Rattle.pb_base_values.specs.Carrier as carriers
use Rattle.pb_base_values.specs.Interval.{is_included, words}
use Rattle.pb_base_values.specs.Operation.{UnaryOperation, BinaryOperation, unary_value, binary_value}
use Rattle.pb_base_values.specs.Operation as operation
use Rattle.pb_sorts.specs.Carrier.{values_of}
use Rattle.pb_sorts.specs.declared.carrier.Carrier.{Carrier}
use Rattle.pb_sorts.specs.declared.carrier.Carrier.TheVariants as carrier
use Rattle.pb_bytecode_program.specs.declared.instruction.Arithmetic.{Arithmetic}
use Rattle.pb_bytecode_program.specs.declared.instruction.Arithmetic.TheVariants.{Add, Sub, Mul, Div, Mod, Min, Max}
use Rattle.pb_bytecode_program.specs.declared.instruction.Comparison.{Comparison}
use Rattle.pb_bytecode_program.specs.declared.instruction.Comparison.TheVariants.{Less, LessOrEqual, Greater, GreaterOrEqual}
use Rattle.pb_bytecode_program.specs.declared.instruction.Equality.{Equality}
use Rattle.pb_bytecode_program.specs.declared.instruction.Equality.TheVariants.{Equal, NotEqual}
pub use Rattle.pb_fixpoint_trees.specs.Junctions.{joined}

-- an operand with its kind
pub data TaggedValue : Type 0 where
  BoolValue : Bool → TaggedValue
  IntValue : ℤ → TaggedValue
  EnumValue : (sort index : ℕ) → TaggedValue

-- ---- carriers

-- a value of a carrier, with its kind
abbrev pub tagged : Carrier → carriers.Value → TaggedValue
tagged carrier.Bool z = BoolValue (not (int_eq z (pos 0)))
tagged (carrier.Enum enum) z = EnumValue enum.sort (unsigned_abs z)
tagged (carrier.Range range) z = IntValue z

-- a value without its kind
abbrev pub untagged : TaggedValue → carriers.Value
untagged (BoolValue b) = carriers.of_bool b
untagged (IntValue z) = z
untagged (EnumValue s i) = pos i

-- a carrier's values with their kind, in order
abbrev pub tagged_values : Carrier → List TaggedValue
tagged_values c = map (tagged c) (values_of c)

abbrev pub is_inhabited : Carrier → Bool
is_inhabited carrier.Bool = true
is_inhabited (carrier.Enum enum) = nat_lt 0 enum.count
is_inhabited (carrier.Range range) = int_le range.low range.high

-- ---- arithmetic on whole numbers

abbrev pub operation_of : Arithmetic → BinaryOperation
operation_of Add = BinaryOperation.Sum
operation_of Sub = BinaryOperation.Difference
operation_of Mul = BinaryOperation.Product
operation_of Div = BinaryOperation.Quotient
operation_of Mod = BinaryOperation.Remainder
operation_of Min = BinaryOperation.Minimum
operation_of Max = BinaryOperation.Maximum

abbrev pub arithmetic : Arithmetic → ℤ → ℤ → ℤ
arithmetic c a b = binary_value (operation_of c) a b

-- whether the second operand is a divisor
abbrev pub has_divisor : Arithmetic → Bool
has_divisor c = operation.divides (operation_of c)

abbrev pub absolute : ℤ → ℤ
absolute z = unary_value UnaryOperation.AbsoluteValue z

abbrev pub compares : Comparison → ℤ → ℤ → Bool
compares Less a b = int_lt a b
compares LessOrEqual a b = int_le a b
compares Greater a b = int_lt b a
compares GreaterOrEqual a b = int_le b a

-- whether two values are equal, or none for two kinds
abbrev pub equals : TaggedValue → TaggedValue → Option Bool
equals (BoolValue a) (BoolValue b) = Some ((a && b) || (not a && not b))
equals (IntValue a) (IntValue b) = Some (int_le a b && int_le b a)
equals (EnumValue s i) (EnumValue t j) = if s == t then Some (i == j) else None
equals _ _ = None

-- the answer to = or to ≠, where the values are equal or not
abbrev pub answers : Equality → Bool → Bool
answers Equal b = b
answers NotEqual b = not b

-- the least and the greatest number of 64 bits
abbrev pub least64 : ℤ
least64 = words.low

abbrev pub greatest64 : ℤ
greatest64 = words.high

-- each number from l to h is one of 64 bits
abbrev pub fits64 : ℤ → ℤ → Bool
fits64 l h = is_included (record { low = l; high = h }) words
