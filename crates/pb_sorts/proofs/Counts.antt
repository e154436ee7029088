-- How many tuples the carriers of a loop have: those that it has passed times those that are left.
use Rattle.std.proofs.Common.{◌≡◌, ℕ, zero, suc, ◌+◌, ◌*◌, ◌<◌, ◌≤◌, List, [], ◌∷◌, map, length, drop, get_or, ap, arith, pos, ◌+ℤ◌, ◌-ℤ◌}
use Rattle.std.proofs.lemmas.Int.{ints}
use Rattle.pb_base_values.specs.Carrier.{tuple_count, at_least_none}
use Rattle.pb_sorts.specs.declared.carrier.Carrier.{Carrier}
use Rattle.pb_sorts.specs.declared.carrier.Carrier.TheVariants as variants
use Rattle.pb_sorts.specs.Carrier.{values_of}
use Rattle.pb_sorts.proofs.Places.{drop-at}
use Rattle.pb_sorts.proofs.Intervals.{length-numbers_from, count-interval}

-- a carrier has a value
pub some_values : (c : Carrier) → 1 ≤ length (values_of c)
some_values variants.Bool = omega arith
some_values (variants.Enum e) = omega (arith, length-numbers_from (pos 0) e.count, e.not_empty)
some_values (variants.Range r) = omega (arith, ints, length-numbers_from r.low (at_least_none (r.high -ℤ r.low +ℤ pos 1)), count-interval r.low r.high r.not_empty, r.not_empty)

-- carriers have a tuple
pub some_tuples : (cs : List Carrier) → 1 ≤ tuple_count (map values_of cs)
some_tuples [] = omega arith
some_tuples (c ∷ cs) = positive (length (values_of c)) (tuple_count (map values_of cs)) (some_values c) (some_tuples cs)
  where
    positive : (m n : ℕ) → 1 ≤ m → 1 ≤ n → 1 ≤ m * n
    positive m n p q = grind (arith, p, q)

pub le_times : (m n : ℕ) → 1 ≤ n → m ≤ m * n
le_times m zero h = absurd (omega (arith, h))
le_times m (suc n) h = omega arith

-- the carriers from place k on have as many tuples as the one at k has values, times those of the rest
pub tuple_count-drop : (cs : List Carrier) (k : ℕ) (c : Carrier) → k < length cs → c ≡ get_or cs k c
    → tuple_count (map values_of (drop k cs)) ≡ length (values_of c) * tuple_count (map values_of (drop (k + 1) cs))
tuple_count-drop cs k c below is = ap (λ (ds : List Carrier). tuple_count (map values_of ds)) (drop-at cs k c below is)

-- once the product passes the limit, all tuples are more than it
pub too_many : (cs : List Carrier) (k : ℕ) (c : Carrier) (count limit : ℕ) → k < length cs → c ≡ get_or cs k c
    → count * tuple_count (map values_of (drop k cs)) ≡ tuple_count (map values_of cs) → limit < count * length (values_of c) → limit < tuple_count (map values_of cs)
too_many cs k c count limit below is product above =
    let rest = tuple_count (map values_of (drop (k + 1) cs)) in
    let next : count * tuple_count (map values_of (drop k cs)) ≡ count * (length (values_of c) * rest) = ap (λ (n : ℕ). count * n) (tuple_count-drop cs k c below is) in
    let more : count * length (values_of c) ≤ (count * length (values_of c)) * rest = le_times (count * length (values_of c)) rest (some_tuples (drop (k + 1) cs)) in
    omega (arith, product, next, more, above)
