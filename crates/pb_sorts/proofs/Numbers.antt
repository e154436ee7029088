-- An instance's number as the laws say it: which instances there are, the formula, and which equation owns a number.
use Rattle.std.proofs.Common.{◌≡◌, ℕ, zero, suc, ◌+◌, ◌<◌, ◌≤◌, Bool, true, false, ◌&&◌, ◌==◌, nat_le, nat_lt, not, if◌then◌else◌, List, [], ◌∷◌, map, length, take, Some, None, Option, Contains, refl, sym, ◌∙◌, ap, subst, arith, true≢false, ◌⊎◌, ⊎_elim, ℤ, pos, ◌+ℤ◌, ◌-ℤ◌, int_eq}
use Rattle.std.specs.List.{slice_get}
use Rattle.std.proofs.lemmas.Int.{ints}
use Rattle.std.proofs.lemmas.Bool.Decides.{Decides-int_eq}
use Rattle.std.proofs.lemmas.Bool.{cases_lt}
use Rattle.std.proofs.lemmas.Option.{none-some, same_Some, slice_get_within, slice_get_read, get_or_from_slice_get}
use Rattle.pb_base_values.specs.Carrier as carriers
use Rattle.pb_base_values.specs.Carrier.{Value, Tuple, is_within, tuples, tuple_count, numbers_from, interval, at_least_none}
use Rattle.pb_base_values.proofs.Tuples.{length-tuples}
use Rattle.pb_sorts.specs.declared.carrier.Carrier.{Carrier}
use Rattle.pb_sorts.specs.declared.carrier.Carrier.TheVariants as variants
use Rattle.pb_sorts.specs.Carrier.{values_of}
use Rattle.pb_sorts.specs.Layout.{carriers_of}
use Rattle.pb_sorts.specs.Instance.{Instance, instances, instances_from, is_instance, is_tuple_of, first_of, size_of, tuple_count_at, owns_number, owns_instance, carrier_place, mixed_radix, mixed_radix_of, number_of}
use Rattle.pb_sorts.proofs.Places.{IsImage, map_cases}
use Rattle.pb_sorts.proofs.Intervals.{slice_get-numbers_from, length-numbers_from}
use Rattle.pb_sorts.proofs.TuplePlaces.{is_within-slice_get, HasTuplePlace, place-is_within, IsDistinct, AreDistinct, mixed_radix-slice_get}
use Rattle.pb_sorts.proofs.InstancePlaces.{with_values, length-instances_from-cons, slice_get-instances_from, IsPlaced, placed}

-- ---- which instances there are

contains_from_place : {X : Type 0} (xs : List X) (n : ℕ) (x : X) → slice_get xs n ≡ Some x → Contains xs x
contains_from_place xs n x e = (n, slice_get_within xs n x e, get_or_from_slice_get xs n x x e)

place_from_contains : {X : Type 0} (xs : List X) (x : X) (p : Contains xs x) → slice_get xs p.0 ≡ Some x
place_from_contains xs x p = slice_get_read xs (length xs) p.0 x refl p.1 (sym p.2)

pub record HasNumber (css : List (List carriers.Carrier)) (i : Instance) : Type 0 where
  pub number : ℕ
  pub at : slice_get (instances css) number ≡ Some i

pub is_instance-slice_get : (css : List (List carriers.Carrier)) (n : ℕ) (i : Instance) → slice_get (instances css) n ≡ Some i → is_instance css i ≡ true
is_instance-slice_get css n i e =
    let p : IsPlaced 0 css n i = placed 0 css n i e in
    ap (λ (k : ℕ). is_tuple_of (slice_get css k) i.values) (omega (arith, p.equation))
    ∙ (ap (λ (o : Option (List carriers.Carrier)). is_tuple_of o i.values) p.carriers_at
    ∙ is_within-slice_get p.carriers p.tuple_place i.values p.tuple_at)

pub number-is_instance : (css : List (List carriers.Carrier)) (i : Instance) → is_instance css i ≡ true → HasNumber css i
number-is_instance css i e = by_option (slice_get css i.equation) refl
  where
    at_some : (cs : List carriers.Carrier) → slice_get css i.equation ≡ Some cs → HasNumber css i
    at_some cs is =
        let within : is_within cs i.values ≡ true = ap (λ (o : Option (List carriers.Carrier)). is_tuple_of o i.values) (sym is) ∙ e in
        let p : HasTuplePlace cs i.values = place-is_within cs i.values within in
        record {
          number = length (instances_from 0 (take i.equation css)) + p.place;
          at = slice_get-instances_from 0 css i.equation p.place (length (instances_from 0 (take i.equation css)) + p.place) cs i.values is p.at refl
              ∙ ap (λ (k : ℕ). Some (with_values k i.values)) (omega arith);
        }

    by_option : (o : Option (List carriers.Carrier)) → slice_get css i.equation ≡ o → HasNumber css i
    by_option None is = absurd (true≢false (sym e ∙ ap (λ (o : Option (List carriers.Carrier)). is_tuple_of o i.values) is))
    by_option (Some cs) is = at_some cs is

pub contains-is_instance : (css : List (List carriers.Carrier)) (i : Instance) → is_instance css i ≡ true → Contains (instances css) i
contains-is_instance css i e = let p : HasNumber css i = number-is_instance css i e in contains_from_place (instances css) p.number i p.at

pub is_instance-contains : (css : List (List carriers.Carrier)) (i : Instance) → Contains (instances css) i → is_instance css i ≡ true
is_instance-contains css i p = is_instance-slice_get css p.0 i (place_from_contains (instances css) i p)

-- ---- the formula

cond_first : {X : Type 0} (b : Bool) (x y : X) → b ≡ true → (if not b then x else y) ≡ y
cond_first true x y e = refl
cond_first false x y e = absurd (true≢false (sym e))

cond_later : {X : Type 0} (b : Bool) (x y : X) → (b ≡ true → ⊥) → (if not b then x else y) ≡ x
cond_later true x y e = absurd (e refl)
cond_later false x y e = refl

numbers_distinct : (low : ℤ) (n : ℕ) → IsDistinct (numbers_from low n)
numbers_distinct low zero k v e = absurd (none-some v e)
numbers_distinct low (suc n) zero v e =
    sym (cond_first (int_eq low v) (1 + carrier_place (numbers_from (low +ℤ pos 1) n) v) 0 ((Decides-int_eq low v).1 (same_Some low v e)))
numbers_distinct low (suc n) (suc k) v e =
    let long : length (numbers_from (low +ℤ pos 1) n) ≡ n = length-numbers_from (low +ℤ pos 1) n in
    let inside : k < length (numbers_from (low +ℤ pos 1) n) = slice_get_within (numbers_from (low +ℤ pos 1) n) k v e in
    let here : slice_get (numbers_from (low +ℤ pos 1) n) k ≡ Some ((low +ℤ pos 1) +ℤ pos k) = slice_get-numbers_from (low +ℤ pos 1) n k (omega (arith, long, inside)) in
    let value : ((low +ℤ pos 1) +ℤ pos k) ≡ v = same_Some ((low +ℤ pos 1) +ℤ pos k) v (sym here ∙ e) in
    let rest : k ≡ carrier_place (numbers_from (low +ℤ pos 1) n) v = numbers_distinct (low +ℤ pos 1) n k v e in
    let other : int_eq low v ≡ true → ⊥ = λ h. absurd (apart low v k value ((Decides-int_eq low v).0 h)) in
    ap suc rest ∙ (omega arith ∙ sym (cond_later (int_eq low v) (1 + carrier_place (numbers_from (low +ℤ pos 1) n) v) 0 other))
  where
    apart : (low v : ℤ) (k : ℕ) → ((low +ℤ pos 1) +ℤ pos k) ≡ v → low ≡ v → ⊥
    apart low v k is same = omega (arith, ints, is, same)

values_distinct : (c : Carrier) → IsDistinct (values_of c)
values_distinct variants.Bool = numbers_distinct (pos 0) 2
values_distinct (variants.Enum e) = numbers_distinct (pos 0) e.count
values_distinct (variants.Range r) = numbers_distinct r.low (at_least_none (r.high -ℤ r.low +ℤ pos 1))

are_distinct : (cs : List Carrier) → AreDistinct (map values_of cs)
are_distinct [] = tt
are_distinct (c ∷ cs) = (values_distinct c, are_distinct cs)

distinct_at : (equations : List (List Carrier)) (k : ℕ) (cs : List carriers.Carrier) → slice_get (carriers_of equations) k ≡ Some cs → AreDistinct cs
distinct_at equations k cs e =
    let image : IsImage (λ parameters. map values_of parameters) equations k cs = map_cases (λ (parameters : List Carrier). map values_of parameters) equations k cs e in
    subst AreDistinct image.image (are_distinct image.source)

pub number_of-slice_get : (equations : List (List Carrier)) (n : ℕ) (i : Instance) → slice_get (instances (carriers_of equations)) n ≡ Some i → n ≡ number_of (carriers_of equations) i
number_of-slice_get equations n i e =
    let css = carriers_of equations in
    let p : IsPlaced 0 css n i = placed 0 css n i e in
    let digits : p.tuple_place ≡ mixed_radix p.carriers i.values = mixed_radix-slice_get p.carriers p.tuple_place i.values (distinct_at equations p.place p.carriers p.carriers_at) p.tuple_at in
    let same : p.place ≡ i.equation = omega (arith, p.equation) in
    p.number
    ∙ (ap (λ (r : ℕ). first_of css p.place + r) digits
    ∙ (ap (λ (o : Option (List carriers.Carrier)). first_of css p.place + mixed_radix_of o i.values) (sym p.carriers_at)
    ∙ ap (λ (k : ℕ). first_of css k + mixed_radix_of (slice_get css k) i.values) same))

pub number_is_unique : (equations : List (List Carrier)) (m n : ℕ) (i : Instance)
    → slice_get (instances (carriers_of equations)) m ≡ Some i → slice_get (instances (carriers_of equations)) n ≡ Some i → m ≡ n
number_is_unique equations m n i e f = number_of-slice_get equations m i e ∙ sym (number_of-slice_get equations n i f)

-- ---- which equation owns a number

pub first_of-next_from : (m : ℕ) (css : List (List carriers.Carrier)) (k : ℕ) → k < length css → length (instances_from m (take (suc k) css)) ≡ length (instances_from m (take k css)) + size_of css k
first_of-next_from m [] k below = absurd (omega (arith, below))
first_of-next_from m (cs ∷ css) zero below = length-instances_from-cons m cs [] ∙ omega arith
first_of-next_from m (cs ∷ css) (suc k) below =
    length-instances_from-cons m cs (take (suc k) css)
    ∙ (omega (arith, first_of-next_from (suc m) css k (omega (arith, below)), length-instances_from-cons m cs (take k css)))

pub first_of-next : (css : List (List carriers.Carrier)) (k : ℕ) → k < length css → first_of css (suc k) ≡ first_of css k + size_of css k
first_of-next css k below = first_of-next_from 0 css k below

take_all : {X : Type 0} (xs : List X) → take (length xs) xs ≡ xs
take_all [] = refl
take_all (x ∷ xs) = ap (λ ys. x ∷ ys) (take_all xs)

pub first_of-last : (css : List (List carriers.Carrier)) → first_of css (length css) ≡ length (instances css)
first_of-last css = ap (λ (ds : List (List carriers.Carrier)). length (instances ds)) (take_all css)

-- an equation before another ends where that one begins, or before
pub first_of-before : (css : List (List carriers.Carrier)) (j k : ℕ) → j < k → k ≤ length css → first_of css j + size_of css j ≤ first_of css k
first_of-before css j zero before within = absurd (omega (arith, before))
first_of-before css j (suc k) before within =
    ⊎_elim (λ (h : j < k). omega (arith, first_of-before css j k h (omega (arith, within)), first_of-next css k (omega (arith, within))))
    (λ (h : j ≡ k). omega (arith, first_of-next css k (omega (arith, within)), ap (λ (q : ℕ). first_of css q + size_of css q) h))
    (before_or j k before)
  where
    before_or : (j k : ℕ) → j < suc k → (j < k) ⊎ (j ≡ k)
    before_or j k h = grind (arith, h)

-- an equation owns the numbers between its first and its last, and the instances that name it: both at once, or neither
in_block : (first size n e k : ℕ) (b : Bool) → b ≡ true → (e ≡ k → (first ≤ n) × (n < first + size)) → (e < k → n < first) → (k < e → first + size ≤ n)
    → (nat_le first n && nat_lt n (first + size)) ≡ ((e == k) && b)
in_block first size n e k b is here before after =
    ⊎_elim (λ (h : e < k). let h' : n < first = before h in grind (arith, h, h'))
    (λ (h : k ≤ e). ⊎_elim (λ (g : k < e). let g' : first + size ≤ n = after g in grind (arith, g, g'))
    (λ (g : e ≡ k). let q : (first ≤ n) × (n < first + size) = here g in grind (arith, g, q.0, q.1, is))
    (equal_or k e h))
    (cases_lt e k)
  where
    equal_or : (j k : ℕ) → j ≤ k → (j < k) ⊎ (k ≡ j)
    equal_or j k h = grind (arith, h)

pub owns_number-owns_instance : (css : List (List carriers.Carrier)) (k n : ℕ) (i : Instance) → k < length css → slice_get (instances css) n ≡ Some i → owns_number css k n ≡ owns_instance css k i
owns_number-owns_instance css k n i below e =
    let p : IsPlaced 0 css n i = placed 0 css n i e in
    let same : i.equation ≡ p.place = omega (arith, p.equation) in
    let known : p.place < length css = slice_get_within css p.place p.carriers p.carriers_at in
    let size : size_of css p.place ≡ tuple_count p.carriers = ap tuple_count_at p.carriers_at in
    let short : p.tuple_place < tuple_count p.carriers = subst (λ (m : ℕ). p.tuple_place < m) (length-tuples p.carriers) (slice_get_within (tuples p.carriers) p.tuple_place i.values p.tuple_at) in
    in_block (first_of css k) (size_of css k) n i.equation k (is_instance css i) (is_instance-slice_get css n i e)
    (λ h. let at_k : first_of css p.place + size_of css p.place ≡ first_of css k + size_of css k = ap (λ (q : ℕ). first_of css q + size_of css q) (sym same ∙ h) in
    let from_k : first_of css p.place ≡ first_of css k = ap (first_of css) (sym same ∙ h) in
    (omega (arith, p.number, from_k), omega (arith, p.number, size, short, at_k, from_k)))
    (λ h. let ends : first_of css p.place + size_of css p.place ≤ first_of css k = first_of-before css p.place k (omega (arith, h, same)) (omega (arith, below)) in
    omega (arith, p.number, size, short, ends))
    (λ h. let ends : first_of css k + size_of css k ≤ first_of css p.place = first_of-before css k p.place (omega (arith, h, same)) (omega (arith, known)) in
    omega (arith, p.number, ends))
