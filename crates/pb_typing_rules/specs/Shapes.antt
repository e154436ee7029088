-- What the kinds and intervals of operands allow, and what they make of an operation. A part of
-- unknown shape has a fault of its own, and so it passes each test.
use Rattle.std.specs.Prelude.{ℕ, ℤ, pos, ◌-ℤ◌, int_le, Bool, true, false, not, ◌==◌, ◌&&◌, ◌||◌, if◌then◌else◌, Option, Some, None, max}
use Rattle.pb_text_meaning.specs.Syntax.{Operator}
use Rattle.pb_base_values.specs.Interval as intervals
use Rattle.pb_base_values.specs.Interval.{IntegerInterval, Includes, is_included, within, singleton, literals}
use Rattle.pb_base_values.specs.Operation.{UnaryOperation, BinaryOperation, Sum, Difference, Product, Quotient, Remainder, divides, unary_interval, binary_interval}
use Rattle.pb_typing_declarations.specs.Shapes.{Shape, Unknown, Truths, Places, Wholes}

-- ---- kinds

abbrev pub may_be_truth : Shape → Bool
may_be_truth Unknown = true
may_be_truth Truths = true
may_be_truth (Places s n) = false
may_be_truth (Wholes l h) = false

abbrev pub may_be_whole : Shape → Bool
may_be_whole Unknown = true
may_be_whole Truths = false
may_be_whole (Places s n) = false
may_be_whole (Wholes l h) = true

-- an enumerator of the struct with this number
abbrev pub may_be_place : ℕ → Shape → Bool
may_be_place s Unknown = true
may_be_place s Truths = false
may_be_place s (Places t n) = s == t
may_be_place s (Wholes l h) = false

-- of one kind
abbrev pub may_be_alike : Shape → Shape → Bool
may_be_alike Unknown t = true
may_be_alike Truths t = may_be_truth t
may_be_alike (Places s n) t = may_be_place s t
may_be_alike (Wholes l h) t = may_be_whole t

-- ---- values

abbrev pub between : ℤ → ℤ → IntegerInterval
between l h = record { low = l; high = h }

-- the value is one that a term of this shape may have; nothing is known to have an unknown shape
abbrev pub IsValueOf : Shape → ℤ → Type 0
IsValueOf Unknown v = ⊥
IsValueOf Truths v = Includes (between (pos 0) (pos 1)) v
IsValueOf (Places s n) v = Includes (between (pos 0) (pos n -ℤ pos 1)) v
IsValueOf (Wholes l h) v = Includes (between l h) v

-- all its values lie from -2^62 to 2^62, the limits of what is computed
abbrev pub is_limited : Shape → Bool
is_limited Unknown = true
is_limited Truths = true
is_limited (Places s n) = is_included (between (pos 0) (pos n -ℤ pos 1)) literals
is_limited (Wholes l h) = is_included (between l h) literals

-- whole numbers of this interval, if there is one
abbrev pub of_interval : Option IntegerInterval → Shape
of_interval None = Unknown
of_interval (Some i) = Wholes i.low i.high

-- the shape of a literal
abbrev pub literal_shape : ℕ → Shape
literal_shape n = of_interval (within literals (singleton (pos n)))

-- either of two values of one kind
abbrev pub shape_hull : Shape → Shape → Shape
shape_hull (Wholes l h) (Wholes m k) =
    of_interval (Some (intervals.hull (between l h) (between m k)))
shape_hull Truths Truths = Truths
shape_hull (Places s n) (Places t m) = if s == t then Places s (max n m) else Unknown
shape_hull _ _ = Unknown

-- ---- operations on whole numbers

-- the interval of an operation within the limits
abbrev pub unary_shape : UnaryOperation → Shape → Shape
unary_shape o (Wholes l h) = of_interval (within literals (unary_interval o (between l h)))
unary_shape o _ = Unknown

abbrev pub unary_is_limited : UnaryOperation → Shape → Bool
unary_is_limited o (Wholes l h) = is_included (unary_interval o (between l h)) literals
unary_is_limited o _ = true

-- no divisor is below 1
abbrev pub may_divide : BinaryOperation → Shape → Bool
may_divide o (Wholes m k) = not (divides o) || int_le (pos 1) m
may_divide o _ = true

abbrev pub binary_shape : BinaryOperation → Shape → Shape → Shape
binary_shape o (Wholes l h) (Wholes m k) =
    if may_divide o (Wholes m k)
    then of_interval (within literals (binary_interval o (between l h) (between m k)))
    else Unknown
binary_shape o _ _ = Unknown

abbrev pub binary_is_limited : BinaryOperation → Shape → Shape → Bool
binary_is_limited o (Wholes l h) (Wholes m k) =
    not (may_divide o (Wholes m k))
    || is_included (binary_interval o (between l h) (between m k)) literals
binary_is_limited o _ _ = true

-- ---- operators

-- what an operator takes: two Booleans, two of one kind, two whole numbers to compare or two to
-- compute with
pub data OperatorKind : Type 0 where
  OfTruths OfAlike OfWholes : OperatorKind
  Computed : BinaryOperation → OperatorKind

abbrev pub kind_of : Operator → OperatorKind
kind_of Operator.And = OfTruths
kind_of Operator.Or = OfTruths
kind_of Operator.Implies = OfTruths
kind_of Operator.Equal = OfAlike
kind_of Operator.NotEqual = OfAlike
kind_of Operator.Less = OfWholes
kind_of Operator.LessEqual = OfWholes
kind_of Operator.Greater = OfWholes
kind_of Operator.GreaterEqual = OfWholes
kind_of Operator.Plus = Computed Sum
kind_of Operator.Minus = Computed Difference
kind_of Operator.Times = Computed Product
kind_of Operator.Div = Computed Quotient
kind_of Operator.Mod = Computed Remainder

-- T04: the operands are of the kinds that the operator takes
abbrev pub accepts : OperatorKind → Shape → Shape → Bool
accepts OfTruths s t = may_be_truth s && may_be_truth t
accepts OfAlike s t = may_be_alike s t
accepts OfWholes s t = may_be_whole s && may_be_whole t
accepts (Computed o) s t = may_be_whole s && may_be_whole t

abbrev pub outcome : OperatorKind → Shape → Shape → Shape
outcome (Computed o) s t = binary_shape o s t
outcome _ s t = Truths

-- T09: by its interval, no divisor of div and mod is below 1
abbrev pub divisor_is_positive : OperatorKind → Shape → Bool
divisor_is_positive (Computed o) t = may_divide o t
divisor_is_positive _ t = true

-- T10: by the intervals of the operands, the result is within the limits
abbrev pub outcome_is_limited : OperatorKind → Shape → Shape → Bool
outcome_is_limited (Computed o) s t = binary_is_limited o s t
outcome_is_limited _ s t = true
