-- A tuple's place, value by value: what is read so far decides the place of the whole, once the rest is read.
use Rattle.std.proofs.Common.{◌≡◌, ℕ, suc, ◌+◌, ◌*◌, ◌<◌, ◌≤◌, ◌^◌, Bool, true, false, ◌&&◌, List, [], ◌∷◌, map, length, Some, refl, sym, ◌∙◌, ap, subst, arith, ◌⊎◌, inl, inr}
use Rattle.std.specs.List.{slice_get}
use Rattle.std.proofs.lemmas.Option.{slice_get_within}
use Rattle.std.proofs.Math.Nat.{mul-le-mul_right}
use Rattle.pb_base_values.specs.Carrier.{Value, Tuple, contains, is_within, tuples, tuple_count}
use Rattle.pb_sorts.specs.declared.carrier.Carrier.{Carrier}
use Rattle.pb_sorts.specs.Carrier.{values_of}
use Rattle.pb_sorts.proofs.Counts.{some_tuples, le_times}
use Rattle.pb_sorts.proofs.TuplePlaces.{slice_get-tuples, contains-slice_get}

abbrev pub count : List Carrier → ℕ
count cs = tuple_count (map values_of cs)

-- Of the tuple vs of the carriers cs, the values before ws are read, and the carriers ds are those of ws;
-- p is the place of the values read, among the tuples of their carriers.
pub record IsReading (cs : List Carrier) (vs : Tuple) (p : ℕ) (ds : List Carrier) (ws : Tuple) : Type 0 where
  pub completes : (r : ℕ) → slice_get (tuples (map values_of ds)) r ≡ Some ws → slice_get (tuples (map values_of cs)) (p * count ds + r) ≡ Some vs
  pub within : is_within (map values_of cs) vs ≡ is_within (map values_of ds) ws
  pub below : (p + 1) * count ds ≤ count cs
  pub long : length ds ≡ length ws

pub reading_starts : (cs : List Carrier) (vs : Tuple) (ds : List Carrier) (ws : Tuple) → ds ≡ cs → ws ≡ vs → length cs ≡ length vs → IsReading cs vs 0 ds ws
reading_starts cs vs ds ws ds_is ws_is long = subst (λ (es : List Carrier). IsReading cs vs 0 es ws) (sym ds_is) (subst (λ (us : Tuple). IsReading cs vs 0 cs us) (sym ws_is) (record {
  completes = λ r e. ap (slice_get (tuples (map values_of cs))) (from_zero (count cs) r) ∙ e;
  within = refl;
  below = omega arith;
  long = long;
}))
  where
    from_zero : (n r : ℕ) → 0 * n + r ≡ r
    from_zero n r = omega arith

pub reading_goes_on : (cs : List Carrier) (vs : Tuple) (p : ℕ) (ds : List Carrier) (ws : Tuple) (c : Carrier) (es : List Carrier) (v : Value) (us : Tuple) (q n : ℕ)
    → IsReading cs vs p ds ws → ds ≡ c ∷ es → ws ≡ v ∷ us → slice_get (values_of c) q ≡ Some v → n ≡ p * length (values_of c) + q → IsReading cs vs n es us
reading_goes_on cs vs p ds ws c es v us q n reading ds_is ws_is at n_is =
    step (subst (λ (fs : List Carrier). IsReading cs vs p fs (v ∷ us)) ds_is
    (subst (λ (xs : Tuple). IsReading cs vs p ds xs) ws_is reading))
  where
    digit : q < length (values_of c)
    digit = slice_get_within (values_of c) q v at

    sum : (long rest r : ℕ) → p * (long * rest) + (q * rest + r) ≡ (p * long + q) * rest + r
    sum long rest r = omega arith

    bound : (long rest all : ℕ) → q < long → (p + 1) * (long * rest) ≤ all → ((p * long + q) + 1) * rest ≤ all
    bound long rest all less h =
        let more : (p * long + q + 1) * rest ≤ (p * long + long) * rest = mul-le-mul_right rest (omega (arith, less)) in
        omega (arith, h, more)

    step : IsReading cs vs p (c ∷ es) (v ∷ us) → IsReading cs vs n es us
    step reading = record {
      completes = λ r e.
          ap (λ (k : ℕ). slice_get (tuples (map values_of cs)) (k * count es + r)) n_is
          ∙ (ap (slice_get (tuples (map values_of cs))) (sym (sum (length (values_of c)) (count es) r))
          ∙ reading.completes (q * count es + r) (slice_get-tuples (values_of c) (map values_of es) q r (q * count es + r) v us at e refl));
      within = reading.within ∙ ap (λ (b : Bool). b && is_within (map values_of es) us) (contains-slice_get (values_of c) q v at);
      below = subst (λ (k : ℕ). (k + 1) * count es ≤ count cs) (sym n_is) (bound (length (values_of c)) (count es) (count cs) digit reading.below);
      long = omega (arith, reading.long);
    }

-- the places read are few, so that one digit more fits
pub place_fits : (cs : List Carrier) (vs : Tuple) (p : ℕ) (ds : List Carrier) (ws : Tuple) (limit : ℕ) → IsReading cs vs p ds ws → count cs ≤ limit → p < limit
place_fits cs vs p ds ws limit reading few =
    let more : p + 1 ≤ (p + 1) * count ds = le_times (p + 1) (count ds) (some_tuples ds) in
    omega (arith, reading.below, few, more)

-- the place with one digit more is one of the tuples' of all carriers
pub next_fits : (cs : List Carrier) (vs : Tuple) (p : ℕ) (ds : List Carrier) (ws : Tuple) (c : Carrier) (es : List Carrier) (size q : ℕ)
    → IsReading cs vs p ds ws → ds ≡ c ∷ es → size ≡ length (values_of c) → q < size → p * size + q < count cs
next_fits cs vs p ds ws c es size q reading ds_is size_is digit =
    let whole : (p + 1) * count (c ∷ es) ≤ count cs = subst (λ (fs : List Carrier). (p + 1) * count fs ≤ count cs) ds_is reading.below in
    let sized : (p + 1) * (length (values_of c) * count es) ≤ count cs = whole in
    let more : (p + 1) * length (values_of c) ≤ ((p + 1) * length (values_of c)) * count es = le_times ((p + 1) * length (values_of c)) (count es) (some_tuples es) in
    let parted : (p + 1) * length (values_of c) ≡ p * length (values_of c) + length (values_of c) = omega arith in
    let same : p * size ≡ p * length (values_of c) = ap (λ (n : ℕ). p * n) size_is in
    omega (arith, sized, more, parted, same, size_is, digit)

pub reading_ends : (cs : List Carrier) (vs : Tuple) (p : ℕ) (ds : List Carrier) (ws : Tuple) → IsReading cs vs p ds ws → (ds ≡ []) ⊎ (ws ≡ []) → slice_get (tuples (map values_of cs)) p ≡ Some vs
reading_ends cs vs p ds ws reading ends = at_end ds ws reading ends
  where
    last : (p : ℕ) → p ≡ p * 1 + 0
    last p = omega arith

    at_end : (ds : List Carrier) (ws : Tuple) → IsReading cs vs p ds ws → (ds ≡ []) ⊎ (ws ≡ []) → slice_get (tuples (map values_of cs)) p ≡ Some vs
    at_end [] [] reading ends = ap (slice_get (tuples (map values_of cs))) (last p) ∙ reading.completes 0 refl
    at_end [] (w ∷ ws) reading ends = absurd (omega (arith, reading.long))
    at_end (d ∷ ds) [] reading ends = absurd (omega (arith, reading.long))
    at_end (d ∷ ds) (w ∷ ws) reading (inl e) = absurd (omega (arith, ap length e))
    at_end (d ∷ ds) (w ∷ ws) reading (inr e) = absurd (omega (arith, ap length e))

-- a tuple of another length
pub is_within-other_length : (cs : List Carrier) (vs : Tuple) → (length cs ≡ length vs → ⊥) → is_within (map values_of cs) vs ≡ false
is_within-other_length [] [] other = absurd (other refl)
is_within-other_length [] (v ∷ vs) other = refl
is_within-other_length (c ∷ cs) [] other = refl
is_within-other_length (c ∷ cs) (v ∷ vs) other =
    ap (λ (b : Bool). contains (values_of c) v && b) (is_within-other_length cs vs (λ e. other (ap suc e))) ∙ false_right (contains (values_of c) v)
  where
    false_right : (b : Bool) → (b && false) ≡ false
    false_right true = refl
    false_right false = refl
