-- A tuple at a place, from its last value on: what stands behind is written, and the rest of the place is that of the
-- values in front.
use Rattle.std.proofs.Common.{◌≡◌, ℕ, zero, suc, ◌+◌, ◌*◌, ◌<◌, List, [], ◌∷◌, map, length, Some, refl, sym, ◌∙◌, ap, subst, arith}
use Rattle.std.specs.List.{slice_get}
use Rattle.pb_base_values.specs.Carrier.{Value, Tuple, tuples}
use Rattle.pb_sorts.specs.declared.carrier.Carrier.{Carrier}
use Rattle.pb_sorts.specs.Carrier.{values_of}
use Rattle.pb_sorts.proofs.Reading.{count}
use Rattle.pb_sorts.proofs.TuplePlaces.{slice_get-tuples}

-- the values vs of the carriers ds are written, and `rest` is the place of those in front of them
pub record IsEnd (place rest : ℕ) (ds : List Carrier) (vs : Tuple) : Type 0 where
  pub low : ℕ
  pub whole : place ≡ rest * count ds + low
  pub at : slice_get (tuples (map values_of ds)) low ≡ Some vs

pub nothing_written : (place : ℕ) (ds : List Carrier) (vs : Tuple) → ds ≡ [] → vs ≡ [] → IsEnd place place ds vs
nothing_written place ds vs none empty =
    subst (λ (es : List Carrier). IsEnd place place es vs) (sym none)
    (subst (λ (us : Tuple). IsEnd place place [] us) (sym empty) (record { low = 0; whole = omega arith; at = refl }))

pub one_more : (place rest before last size : ℕ) (c : Carrier) (ds es : List Carrier) (v : Value) (vs us : Tuple)
    → IsEnd place rest ds vs → rest ≡ before * size + last → size ≡ length (values_of c) → slice_get (values_of c) last ≡ Some v → es ≡ c ∷ ds → us ≡ v ∷ vs
    → IsEnd place before es us
one_more place rest before last size c ds es v vs us end rest_is size_is at es_is us_is =
    subst (λ (fs : List Carrier). IsEnd place before fs us) (sym es_is) (subst (λ (xs : Tuple). IsEnd place before (c ∷ ds) xs) (sym us_is) (record {
      low = last * count ds + end.low;
      whole = end.whole
          ∙ (ap (λ (r : ℕ). r * count ds + end.low) rest_is
          ∙ (ap (λ (s : ℕ). (before * s + last) * count ds + end.low) size_is
          ∙ sym (sum before (length (values_of c)) last (count ds) end.low)));
      at = slice_get-tuples (values_of c) (map values_of ds) last end.low (last * count ds + end.low) v vs at end.at refl;
    }))
  where
    sum : (p long q rest r : ℕ) → p * (long * rest) + (q * rest + r) ≡ (p * long + q) * rest + r
    sum p long q rest r = omega arith

pub all_written : (place rest : ℕ) (cs : List Carrier) (vs : Tuple) → IsEnd place rest cs vs → place < count cs → slice_get (tuples (map values_of cs)) place ≡ Some vs
all_written place rest cs vs end below = by rest end.whole
  where
    by : (r : ℕ) → place ≡ r * count cs + end.low → slice_get (tuples (map values_of cs)) place ≡ Some vs
    by zero e =
        let same : place ≡ end.low = omega (arith, e) in
        ap (slice_get (tuples (map values_of cs))) same ∙ end.at
    by (suc r) e = absurd (omega (arith, e, below))
