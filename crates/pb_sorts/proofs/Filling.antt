-- The tuple at a place, value by value: what stands at the rest of the place completes the values that are there.
use Rattle.std.proofs.Common.{◌≡◌, ℕ, ◌+◌, ◌*◌, ◌/◌, ◌%◌, ◌<◌, List, [], ◌∷◌, ◌++◌, map, length, Some, refl, sym, ◌∙◌, ap, arith, append_assoc}
use Rattle.std.specs.List.{slice_get}
use Rattle.std.proofs.Math.Nat.{mul-div_cancel_left, div-lt_iff_lt-mul, mod-lt}
use Rattle.std.proofs.lemmas.Nat.{div-add-mod'}
use Rattle.pb_base_values.specs.Carrier.{Value, Tuple, tuples}
use Rattle.pb_sorts.specs.declared.carrier.Carrier.{Carrier}
use Rattle.pb_sorts.specs.Carrier.{values_of}
use Rattle.pb_sorts.proofs.Counts.{some_tuples, some_values}
use Rattle.pb_sorts.proofs.Reading.{count}
use Rattle.pb_sorts.proofs.TuplePlaces.{slice_get-tuples}

-- Of the tuple at `place` among those of the carriers cs, vs are the first values; the carriers ds are those of the
-- values that are missing, and `rest` is the place of these among the `weight` tuples of ds.
pub record IsFilling (cs : List Carrier) (place : ℕ) (vs : Tuple) (ds : List Carrier) (rest weight : ℕ) : Type 0 where
  pub completes : (ws : Tuple) → slice_get (tuples (map values_of ds)) rest ≡ Some ws → slice_get (tuples (map values_of cs)) place ≡ Some (vs ++ ws)
  pub weight_is : weight ≡ count ds
  pub below : rest < weight

-- the weight of the next value
next_weight : (c : Carrier) (es : List Carrier) (weight size : ℕ) → weight ≡ length (values_of c) * count es → size ≡ length (values_of c) → weight / size ≡ count es
next_weight c es weight size weight_is size_is =
    ap (λ (n : ℕ). n / size) weight_is ∙ (ap (λ (n : ℕ). (length (values_of c) * count es) / n) size_is ∙ mul-div_cancel_left (count es) (some_values c))

pub weight_is_some : (cs : List Carrier) (place : ℕ) (vs : Tuple) (ds : List Carrier) (rest weight : ℕ) (c : Carrier) (es : List Carrier) (size : ℕ)
    → IsFilling cs place vs ds rest weight → ds ≡ c ∷ es → size ≡ length (values_of c) → 0 < weight / size
weight_is_some cs place vs ds rest weight c es size filling ds_is size_is =
    omega (arith, next_weight c es weight size (filling.weight_is ∙ ap count ds_is) size_is, some_tuples es)

-- the next digit is one of the carrier's places
pub digit_below : (cs : List Carrier) (place : ℕ) (vs : Tuple) (ds : List Carrier) (rest weight : ℕ) (c : Carrier) (es : List Carrier) (size : ℕ)
    → IsFilling cs place vs ds rest weight → ds ≡ c ∷ es → size ≡ length (values_of c) → rest / (weight / size) < length (values_of c)
digit_below cs place vs ds rest weight c es size filling ds_is size_is =
    let next : weight / size ≡ count es = next_weight c es weight size (filling.weight_is ∙ ap count ds_is) size_is in
    let all : weight ≡ length (values_of c) * count es = filling.weight_is ∙ ap count ds_is in
    let product : length (values_of c) * (weight / size) ≡ length (values_of c) * count es = ap (λ (n : ℕ). length (values_of c) * n) next in
    (div-lt_iff_lt-mul {k = weight / size} {x = rest} {y = length (values_of c)} (weight_is_some cs place vs ds rest weight c es size filling ds_is size_is)).1
    (omega (arith, filling.below, all, product))

pub filling_goes_on : (cs : List Carrier) (place : ℕ) (vs : Tuple) (ds : List Carrier) (rest weight : ℕ) (c : Carrier) (es : List Carrier) (size : ℕ) (v : Value) (us : Tuple)
    → IsFilling cs place vs ds rest weight → ds ≡ c ∷ es → size ≡ length (values_of c) → slice_get (values_of c) (rest / (weight / size)) ≡ Some v → us ≡ vs ++ v ∷ []
    → IsFilling cs place us es (rest % (weight / size)) (weight / size)
filling_goes_on cs place vs ds rest weight c es size v us filling ds_is size_is at us_is =
    let next : weight / size ≡ count es = next_weight c es weight size (filling.weight_is ∙ ap count ds_is) size_is in
    let whole : rest ≡ (rest / (weight / size)) * count es + rest % (weight / size) =
    sym (div-add-mod' rest (weight / size)) ∙ ap (λ (n : ℕ). (rest / (weight / size)) * n + rest % (weight / size)) next in
    record {
      completes = λ ws e.
          filling.completes (v ∷ ws) (ap (λ (fs : List Carrier). slice_get (tuples (map values_of fs)) rest) ds_is
          ∙ slice_get-tuples (values_of c) (map values_of es) (rest / (weight / size)) (rest % (weight / size)) rest v ws at e whole)
          ∙ (ap Some (sym (append_assoc vs (v ∷ []) ws)) ∙ ap (λ (xs : Tuple). Some (xs ++ ws)) (sym us_is));
      weight_is = next;
      below = mod-lt rest (weight_is_some cs place vs ds rest weight c es size filling ds_is size_is);
    }

pub filling_ends : (cs : List Carrier) (place : ℕ) (vs : Tuple) (ds : List Carrier) (rest weight : ℕ)
    → IsFilling cs place vs ds rest weight → ds ≡ [] → slice_get (tuples (map values_of cs)) place ≡ Some vs
filling_ends cs place vs ds rest weight filling none =
    let one : weight ≡ 1 = filling.weight_is ∙ ap count none in
    let zero_left : rest ≡ 0 = omega (arith, filling.below, one) in
    filling.completes [] (ap (λ (fs : List Carrier). slice_get (tuples (map values_of fs)) rest) none ∙ ap (slice_get (tuples [])) zero_left)
    ∙ ap Some (append_nil vs)
  where
    append_nil : (xs : Tuple) → xs ++ [] ≡ xs
    append_nil [] = refl
    append_nil (x ∷ xs) = ap (λ (ys : Tuple). x ∷ ys) (append_nil xs)
