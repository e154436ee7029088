-- The values of variables as numbers from 0 on, and back, in terms.
use Rattle.std.specs.Prelude.{ℕ, zero, suc, ◌*◌, ℤ, pos, negsuc, ◌-ℤ◌, nat_eq}
use Rattle.std.specs.Prelude.{if◌then◌else◌, List, [], ◌∷◌, Option}
use Rattle.std.specs.Prelude.{Some, None, codes, is_some, Bool, true, false, ◌&&◌, int_le, int_lt}
use Rattle.std.specs.Prelude.{◌+ℤ◌, ◌^◌, nat_lt}
use Rattle.pb_base_values.specs.Carrier.{of_bool}
use Rattle.pb_text_meaning.specs.Syntax.{Name, same_name, Operator, Term, Terms}

-- ---- kinds

-- how a text writes a variable's values: as truth values, as enumerators or as whole numbers
pub data Kind : Type 0 where
  Boolean : Kind
  Enumeration : List Name → Kind
  Whole : Kind

-- ---- arithmetic

abbrev pub number : ℤ → Term
number (pos n) = Term.Number n
number (negsuc n) = Term.Negative (Term.Number (suc n))

-- x * n and x div n, where n isn't 1, and x mod n
abbrev pub times : Term → ℕ → Term
times x n = if nat_eq n 1 then x else Term.Binary Operator.Times x (Term.Number n)

abbrev pub divided : Term → ℕ → Term
divided x n = if nat_eq n 1 then x else Term.Binary Operator.Div x (Term.Number n)

abbrev pub rest : Term → ℕ → Term
rest x n = Term.Binary Operator.Mod x (Term.Number n)

-- The digits of x that count less than n, and m at least. In a mixed radix what a digit counts
-- divides what those in front of it count: so the remainder by n drops all of these at once, and
-- the quotient by m those behind. Where n is the limit of x, there are none in front.
abbrev pub between : ℕ → ℕ → ℕ → Term → Term
between limit n m x = divided (if nat_eq n limit then x else rest x n) m

-- x * n, written where x is a written number below a limit
abbrev pub scaled : ℕ → Term → ℕ → Term
scaled limit (Term.Number d) n =
    if nat_lt d limit then Term.Number (d * n) else times (Term.Number d) n
scaled limit x n = times x n

-- x + y, where neither is a written 0
abbrev pub is_zero : Term → Bool
is_zero (Term.Number zero) = true
is_zero x = false

abbrev pub plus : Term → Term → Term
plus x y =
    if is_zero x then y else (if is_zero y then x else Term.Binary Operator.Plus x y)

-- x and the sum of terms
abbrev pub plus_all : Term → List Term → Term
plus_all x [] = x
plus_all x (y ∷ ys) = plus_all (plus x y) ys

-- x + low and x - low, where low isn't 0
abbrev pub raised : Term → ℤ → Term
raised x (pos zero) = x
raised x low = Term.Binary Operator.Plus x (number low)

abbrev pub lowered : Term → ℤ → Term
lowered x (pos zero) = x
lowered x low = Term.Binary Operator.Minus x (number low)

-- if(x, y, z)
abbrev pub either : Term → Term → Term → Term
either x y z = Term.Apply (codes "if") (Terms.Then x (Terms.Then y (Terms.Then z Terms.NoTerms)))

-- ---- numbers of values

-- the enumerator at the place that x gives, of these from number n on, and back
abbrev pub enumerator_at : ℕ → List Name → Term → Term
enumerator_at n [] x = x
enumerator_at n (e ∷ []) x = Term.Named e
enumerator_at n (e ∷ f ∷ es) x =
    either (Term.Binary Operator.Equal x (Term.Number n)) (Term.Named e)
    (enumerator_at (suc n) (f ∷ es) x)

abbrev pub place_of : ℕ → List Name → Term → Term
place_of n [] x = x
place_of n (e ∷ []) x = Term.Number n
place_of n (e ∷ f ∷ es) x =
    either (Term.Binary Operator.Equal x (Term.Named e)) (Term.Number n)
    (place_of (suc n) (f ∷ es) x)

-- the value of a variable whose lowest value is `low` from its number, counted from there
abbrev pub from_number : Kind → ℤ → Term → Term
from_number Boolean low x = Term.Binary Operator.Equal x (Term.Number 1)
from_number (Enumeration es) low x = enumerator_at 0 es x
from_number Whole low x = raised x low

-- the place of an enumerator's name
abbrev pub place_among : ℕ → List Name → Name → Option ℕ
place_among n [] x = None
place_among n (e ∷ es) x = if same_name e x then Some n else place_among (suc n) es x

abbrev pub place_or : Option ℕ → Term → Term
place_or (Some n) x = Term.Number n
place_or None x = x

-- the place of an enumerator: that of a name, what `if` chooses of two places, and else by tests
abbrev pub place_number : List Name → Term → Term
place_number es (Term.Named x) = place_or (place_among 0 es x) (place_of 0 es (Term.Named x))
place_number es (Term.Apply f (Terms.Then x (Terms.Then y (Terms.Then z Terms.NoTerms)))) =
    if same_name f (codes "if") then either x (place_number es y) (place_number es z)
    else place_of 0 es (Term.Apply f (Terms.Then x (Terms.Then y (Terms.Then z Terms.NoTerms))))
place_number es x = place_of 0 es x

abbrev pub computed_number : Kind → ℤ → Term → Term
computed_number Boolean low x = either x (Term.Number 1) (Term.Number 0)
computed_number (Enumeration es) low x = place_number es x
computed_number Whole low x = lowered x low

-- the number of a truth value or of a small number that is written
abbrev pub constant_number : Kind → ℤ → Term → Option ℤ
constant_number Boolean low (Term.Truth b) = Some (of_bool b)
constant_number Whole low (Term.Number n) =
    if nat_lt n (2 ^ 32) then Some (pos n -ℤ low) else None
constant_number k low x = None

abbrev pub number_or : Option ℤ → Term → Term
number_or (Some z) x = number z
number_or None x = x

-- the number of a variable's value
abbrev pub to_number : Kind → ℤ → Term → Term
to_number k low x = number_or (constant_number k low x) (computed_number k low x)

-- ---- tests

-- whether an operator gives a truth value
abbrev pub gives_truth : Operator → Bool
gives_truth Operator.Plus = false
gives_truth Operator.Minus = false
gives_truth Operator.Times = false
gives_truth Operator.Div = false
gives_truth Operator.Mod = false
gives_truth o = true

-- whether a term is seen to give a truth value
abbrev pub is_truth : Term → Bool
is_truth (Term.Truth b) = true
is_truth (Term.Not x) = true
is_truth (Term.Binary o x y) = gives_truth o
is_truth (Term.Quantified q xs x) = true
is_truth (Term.Apply f (Terms.Then x (Terms.Then y (Terms.Then z Terms.NoTerms)))) =
    same_name f (codes "if") && (is_truth y && is_truth z)
is_truth x = false

-- and one of these enumerators
abbrev pub is_enumerator : List Name → Term → Bool
is_enumerator es (Term.Named x) = is_some (place_among 0 es x)
is_enumerator es (Term.Apply f (Terms.Then x (Terms.Then y (Terms.Then z Terms.NoTerms)))) =
    same_name f (codes "if") && (is_enumerator es y && is_enumerator es z)
is_enumerator es x = false

-- whether a term is seen to have a value of a variable
abbrev pub is_surely_within : Kind → ℤ → ℕ → Term → Bool
is_surely_within Boolean low size x = is_truth x
is_surely_within (Enumeration es) low size x = is_enumerator es x
is_surely_within Whole low size (Term.Number n) =
    int_le low (pos n) && int_lt (pos n) (low +ℤ pos size)
is_surely_within Whole low size x = false

abbrev pub is_one_of : List Name → Term → Term
is_one_of [] x = Term.Truth false
is_one_of (e ∷ []) x = Term.Binary Operator.Equal x (Term.Named e)
is_one_of (e ∷ f ∷ es) x =
    Term.Binary Operator.Or (Term.Binary Operator.Equal x (Term.Named e)) (is_one_of (f ∷ es) x)

-- the test whether it has
abbrev pub test_of : Kind → ℤ → ℕ → Term → Term
test_of Boolean low size x =
    Term.Binary Operator.Or (Term.Binary Operator.Equal x (Term.Truth false))
    (Term.Binary Operator.Equal x (Term.Truth true))
test_of (Enumeration es) low size x = is_one_of es x
test_of Whole low size x =
    Term.Binary Operator.And (Term.Binary Operator.LessEqual (number low) x)
    (Term.Binary Operator.Less x (number (low +ℤ pos size)))
