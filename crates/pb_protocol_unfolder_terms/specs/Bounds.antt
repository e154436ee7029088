-- Between which numbers the values of a flat term stay, as far as its form tells: interval
-- arithmetic (Moore 1966), the abstract interpretation of Cousot and Cousot 1977. What isn't known
-- is none.
use Rattle.std.specs.Prelude.{ℕ, zero, suc, pos, ◌-ℤ◌, int_le, Bool, true, false, not, ◌&&◌, ◌||◌, ⊤}
use Rattle.std.specs.Prelude.{if◌then◌else◌, nat_eq, List, [], ◌∷◌, length, Option, Some, None}
use Rattle.std.specs.Prelude.{codes, option_map}
use Rattle.std.specs.List.{slice_get, starts_with}
use Rattle.pb_base_values.specs.Interval.{IntegerInterval, IsWithin, hull, literals, singleton}
use Rattle.pb_base_values.specs.Interval.{unless_empty, within}
use Rattle.pb_base_values.specs.Operation.{UnaryOperation, Negation, Successor, Predecessor}
use Rattle.pb_base_values.specs.Operation.{AbsoluteValue, BinaryOperation, Sum, Difference, Product}
use Rattle.pb_base_values.specs.Operation.{Quotient, Remainder, Maximum, Minimum, divides}
use Rattle.pb_base_values.specs.Operation.{unary_interval, binary_interval}
use Rattle.pb_text_meaning.specs.Syntax.{Name, same_name, Operator, Term, Terms, Sort, Struct, Alias}
use Rattle.pb_text_meaning.specs.Syntax.{Range, Spec}
use Rattle.pb_text_meaning.specs.Sorts.{range_of, declared}
use Rattle.pb_text_meaning.specs.Functions.{named_function}
use Rattle.pb_text_meaning.specs.declared.function.NamedFunction.{NamedFunction}
use Rattle.pb_text_meaning.specs.declared.function.NamedFunction.TheVariants as function
use Rattle.pb_protocol_folding.specs.Folding.{written_value}
use Rattle.pb_protocol_meaning.specs.Syntax.{StateVariable}

-- from 0 to 1
abbrev pub truths : IntegerInterval
truths = record { low = pos 0; high = pos 1 }

-- the places of n enumerators
abbrev pub places : ℕ → IntegerInterval
places n = record { low = pos 0; high = pos n -ℤ pos 1 }

-- ---- sorts

-- the values of a sort: of truth values and enumerators their places
abbrev pub interval_by :
    Option Range → Bool → Option Sort → (Name → Option IntegerInterval) → Option IntegerInterval
interval_by (Some r) is_bool sort target = unless_empty (record { low = r.low; high = r.high })
interval_by None true sort target = Some truths
interval_by None false (Some (Struct enumerators)) target =
    unless_empty (places (length enumerators))
interval_by None false (Some (Alias s)) target = target s
interval_by None false None target = None

-- through at most n sorts
abbrev pub interval_within : ℕ → Spec → Name → Option IntegerInterval
interval_within zero spec s = None
interval_within (suc n) spec s =
    interval_by (range_of spec.ranges s) (same_name s (codes "Bool")) (declared spec.sorts s)
    (interval_within n spec)

-- no chain of aliases is longer than the list of sorts
abbrev pub sort_interval : Spec → Name → Option IntegerInterval
sort_interval spec s = interval_within (suc (length spec.sorts)) spec s

-- ---- names

abbrev pub is_quote : Option ℕ → Bool
is_quote None = false
is_quote (Some c) = nat_eq c 39

-- x'k .., as the elements of an array are named
abbrev pub may_be_element : Name → Name → Bool
may_be_element array x = starts_with nat_eq x array && is_quote (slice_get x (length array))

-- whether a name is a state variable's that has no indices
abbrev pub is_plain_name_of : StateVariable → Name → Bool
is_plain_name_of y x = nat_eq (length y.indices) 0 && same_name y.name x

-- of one of these
abbrev pub is_plain_name : List StateVariable → Name → Bool
is_plain_name [] x = false
is_plain_name (y ∷ ys) x = is_plain_name_of y x || is_plain_name ys x

-- whether a name is a state variable's, or may be that of one of its elements, which it isn't where
-- a state variable without indices has it
abbrev pub may_be_of : Bool → StateVariable → Name → Bool
may_be_of of_plain y x =
    if nat_eq (length y.indices) 0 then same_name y.name x
    else not of_plain && may_be_element y.name x

-- what is either's
abbrev pub either : Option IntegerInterval → Option IntegerInterval → Option IntegerInterval
either None j = j
either (Some i) None = Some i
either (Some i) (Some j) = Some (hull i j)

-- the values of each state variable that it may be of
abbrev pub interval_among : Spec → Bool → List StateVariable → Name → Option IntegerInterval
interval_among spec of_plain [] x = None
interval_among spec of_plain (y ∷ ys) x =
    if may_be_of of_plain y x
    then either (sort_interval spec y.sort) (interval_among spec of_plain ys x)
    else interval_among spec of_plain ys x

-- those of the state variable without indices that has the name alone; where none has it, those of
-- each array that has such an element
abbrev pub variable_interval : Spec → List StateVariable → Name → Option IntegerInterval
variable_interval spec ys x = interval_among spec (is_plain_name ys x) ys x

-- ---- operators and functions, within the literals

abbrev pub of_one : UnaryOperation → Option IntegerInterval → Option IntegerInterval
of_one o (Some i) = within literals (unary_interval o i)
of_one o None = None

-- no divisor is below 1
abbrev pub may_divide : BinaryOperation → IntegerInterval → Bool
may_divide o j = not (divides o) || int_le (pos 1) j.low

abbrev pub of_two :
    BinaryOperation → Option IntegerInterval → Option IntegerInterval → Option IntegerInterval
of_two o (Some i) (Some j) =
    if may_divide o j then within literals (binary_interval o i j) else None
of_two o (Some i) None = None
of_two o None j = None

-- one of two
abbrev pub of_choice : Option IntegerInterval → Option IntegerInterval → Option IntegerInterval
of_choice (Some i) (Some j) = Some (hull i j)
of_choice (Some i) None = None
of_choice None j = None

-- comparisons and connectives are truth values
abbrev pub operator_interval :
    Operator → Option IntegerInterval → Option IntegerInterval → Option IntegerInterval
operator_interval Operator.Plus i j = of_two Sum i j
operator_interval Operator.Minus i j = of_two Difference i j
operator_interval Operator.Times i j = of_two Product i j
operator_interval Operator.Div i j = of_two Quotient i j
operator_interval Operator.Mod i j = of_two Remainder i j
operator_interval o i j = Some truths

-- the n-th of these
abbrev pub at : List (Option IntegerInterval) → ℕ → Option IntegerInterval
at [] n = None
at (i ∷ is) zero = i
at (i ∷ is) (suc n) = at is n

-- any other function than these tells one enumerator from the others
abbrev pub function_interval :
    Option NamedFunction → List (Option IntegerInterval) → Option IntegerInterval
function_interval (Some function.If) is = of_choice (at is 1) (at is 2)
function_interval (Some function.Succ) is = of_one Successor (at is 0)
function_interval (Some function.Pred) is = of_one Predecessor (at is 0)
function_interval (Some function.Abs) is = of_one AbsoluteValue (at is 0)
function_interval (Some function.Max) is = of_two Maximum (at is 0) (at is 1)
function_interval (Some function.Min) is = of_two Minimum (at is 0) (at is 1)
function_interval (Some function.Pos2Nat) is = at is 0
function_interval (Some function.Pos2Int) is = at is 0
function_interval (Some function.Nat2Int) is = at is 0
function_interval None is = Some truths

-- ---- terms

-- one that is written as a value
abbrev pub written_interval : Spec → Term → Option IntegerInterval
written_interval spec t = option_map singleton (written_value spec t)

-- where it isn't, else
abbrev pub interval_or : Option IntegerInterval → Option IntegerInterval → Option IntegerInterval
interval_or None j = j
interval_or (Some i) j = Some i

abbrev mutual
  pub interval : Spec → List StateVariable → Term → Option IntegerInterval
  interval spec ys (Term.Truth b) = written_interval spec (Term.Truth b)
  interval spec ys (Term.Number n) = written_interval spec (Term.Number n)
  interval spec ys (Term.Named x) =
      interval_or (written_interval spec (Term.Named x)) (variable_interval spec ys x)
  interval spec ys (Term.Not x) = Some truths
  interval spec ys (Term.Negative x) = of_one Negation (interval spec ys x)
  interval spec ys (Term.Binary o x y) =
      operator_interval o (interval spec ys x) (interval spec ys y)
  interval spec ys (Term.Apply f xs) = function_interval (named_function f) (intervals spec ys xs)
  interval spec ys (Term.Quantified q xs x) = Some truths

  pub intervals : Spec → List StateVariable → Terms → List (Option IntegerInterval)
  intervals spec ys Terms.NoTerms = []
  intervals spec ys (Terms.Then x xs) = interval spec ys x ∷ intervals spec ys xs

-- ---- indices

-- the values are seen to stay among those of a sort, if that has any
abbrev pub IsSeenWithin : Option IntegerInterval → Option IntegerInterval → Type 0
IsSeenWithin i None = ⊤
IsSeenWithin None (Some range) = ⊥
IsSeenWithin (Some i) (Some range) = IsWithin i range
