-- Instances of predicate variables with data parameters (Groote and Willemse 2005), and the numbers
-- that they have: an instance's number is its place in the list of all instances.
use Rattle.std.specs.Prelude.{ℕ, suc, ◌+◌, ◌*◌, ◌==◌, nat_le, nat_lt, Bool, false, ◌&&◌, List, [], ◌∷◌, ◌++◌, map, length, take, Option, Some, None}
use Rattle.std.specs.Ordering.{int_eq}
use Rattle.std.specs.List.{slice_get, position_or_len}
use Rattle.pb_sorts.specs.declared.instance as program
use Rattle.pb_base_values.specs.Carrier.{Carrier, Value, Tuple, is_within, tuple_count, tuples}

-- an equation, by its place in the sequence of equations, and a value of each of its parameters
pub record Instance : Type 0 where
  pub equation : ℕ
  pub values : Tuple

-- an instance as the program holds it
abbrev pub instance_of : program.Instance.Instance → Instance
instance_of i = record { equation = i.equation; values = i.values.items }

-- All instances of a sequence of equations, of which only the carriers of the parameters are given,
-- the first equation being at place n: equations in order, the last parameter fastest.
abbrev pub instances_from : ℕ → List (List Carrier) → List Instance
instances_from n [] = []
instances_from n (carriers ∷ rest) =
    map (λ values. record { equation = n; values = values }) (tuples carriers)
    ++ instances_from (suc n) rest

abbrev pub instances : List (List Carrier) → List Instance
instances equations = instances_from 0 equations

-- whether there is such an instance: its equation is there, and it has a value of each of the
-- equation's carriers
abbrev pub is_tuple_of : Option (List Carrier) → Tuple → Bool
is_tuple_of None values = false
is_tuple_of (Some carriers) values = is_within carriers values

abbrev pub is_instance : List (List Carrier) → Instance → Bool
is_instance equations i = is_tuple_of (slice_get equations i.equation) i.values

-- the first number of the equation at place k: so many instances the equations before it have
abbrev pub first_of : List (List Carrier) → ℕ → ℕ
first_of equations k = length (instances (take k equations))

-- how many instances the equation at place k has
abbrev pub tuple_count_at : Option (List Carrier) → ℕ
tuple_count_at None = 0
tuple_count_at (Some carriers) = tuple_count carriers

abbrev pub size_of : List (List Carrier) → ℕ → ℕ
size_of equations k = tuple_count_at (slice_get equations k)

-- whether the equation at place k has the number n, and whether it has the instance i
abbrev pub owns_number : List (List Carrier) → ℕ → ℕ → Bool
owns_number equations k n =
    nat_le (first_of equations k) n && nat_lt n (first_of equations k + size_of equations k)

abbrev pub owns_instance : List (List Carrier) → ℕ → Instance → Bool
owns_instance equations k i = (i.equation == k) && is_instance equations i

-- ---- the number by its formula: mixed radix, the last parameter being the lowest digit

abbrev pub carrier_place : Carrier → Value → ℕ
carrier_place carrier value = position_or_len (λ u. int_eq u value) carrier

abbrev pub mixed_radix : List Carrier → Tuple → ℕ
mixed_radix [] values = 0
mixed_radix (c ∷ cs) [] = 0
mixed_radix (c ∷ cs) (v ∷ vs) = carrier_place c v * tuple_count cs + mixed_radix cs vs

abbrev pub mixed_radix_of : Option (List Carrier) → Tuple → ℕ
mixed_radix_of None values = 0
mixed_radix_of (Some carriers) values = mixed_radix carriers values

abbrev pub number_of : List (List Carrier) → Instance → ℕ
number_of equations i =
    first_of equations i.equation + mixed_radix_of (slice_get equations i.equation) i.values
