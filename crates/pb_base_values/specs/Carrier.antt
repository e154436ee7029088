-- Finite carriers of data, and tuples with a value of each (Groote and Willemse 2005, section 2:
-- data domains).
use Rattle.std.specs.Prelude.{ℕ, zero, suc, ◌*◌, ℤ, pos, negsuc, ◌+ℤ◌, ◌-ℤ◌, Bool, true, false, ◌&&◌, List, [], ◌∷◌, map, length, flat_map}
use Rattle.std.specs.Ordering.{int_eq}
use Rattle.std.specs.List.{list_any}

-- A value of each kind is a whole number: false is 0 and true is 1, an enumerator is its place
-- among its sort's.
abbrev pub Value : Type 0
Value = ℤ

-- a carrier is the list of its values
abbrev pub Carrier : Type 0
Carrier = List Value

abbrev pub Tuple : Type 0
Tuple = List Value

abbrev pub of_bool : Bool → Value
of_bool true = pos 1
of_bool false = pos 0

-- n whole numbers from low on
abbrev pub numbers_from : ℤ → ℕ → Carrier
numbers_from low zero = []
numbers_from low (suc n) = low ∷ numbers_from (low +ℤ pos 1) n

-- a number that isn't below 0, and 0 for one that is
abbrev pub at_least_none : ℤ → ℕ
at_least_none (pos n) = n
at_least_none (negsuc n) = 0

-- the whole numbers from low to high, both included; none where high is below low
abbrev pub interval : ℤ → ℤ → Carrier
interval low high = numbers_from low (at_least_none (high -ℤ low +ℤ pos 1))

abbrev pub contains : Carrier → Value → Bool
contains carrier v = list_any (λ u. int_eq u v) carrier

-- a tuple has a value of each carrier, in order, and no others
abbrev pub is_within : List Carrier → Tuple → Bool
is_within [] [] = true
is_within (c ∷ cs) (v ∷ vs) = contains c v && is_within cs vs
is_within [] (v ∷ vs) = false
is_within (c ∷ cs) [] = false

-- how many tuples carriers have: the product of their sizes
abbrev pub tuple_count : List Carrier → ℕ
tuple_count [] = 1
tuple_count (c ∷ cs) = length c * tuple_count cs

-- all tuples of carriers, the last place fastest
abbrev pub tuples : List Carrier → List Tuple
tuples [] = [] ∷ []
tuples (c ∷ cs) = flat_map (λ v. map (λ vs. v ∷ vs) (tuples cs)) c
