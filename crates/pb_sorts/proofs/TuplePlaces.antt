-- The tuple at a place of all tuples of carriers: its values lie in the carriers, and the place is its mixed radix number.
use Rattle.std.proofs.Common.{◌≡◌, ℕ, zero, suc, ◌+◌, ◌*◌, Bool, true, ◌||◌, List, [], ◌∷◌, Some, refl, sym, ◌∙◌, ap, int_eq, true≢false, inl, inr}
use Rattle.std.specs.List.{slice_get}
use Rattle.std.proofs.lemmas.Bool.Decides.{Decides-int_eq}
use Rattle.std.proofs.lemmas.Option.{none-some, same_Some}
use Rattle.std.proofs.lemmas.Bool.{and_from, and_parts, or_cases, or_right}
use Rattle.pb_base_values.specs.Carrier.{Carrier, Value, Tuple, contains, is_within, tuples, tuple_count}
use Rattle.pb_base_values.proofs.Tuples.{length-tuples}
use Rattle.pb_sorts.specs.Instance.{carrier_place, mixed_radix}
use Rattle.pb_sorts.proofs.Places.{IsFront, fronts_cases, slice_get-fronts}

pub slice_get-tuples : (c : Carrier) (cs : List Carrier) (q r n : ℕ) (v : Value) (vs : Tuple)
    → slice_get c q ≡ Some v → slice_get (tuples cs) r ≡ Some vs → n ≡ q * tuple_count cs + r → slice_get (tuples (c ∷ cs)) n ≡ Some (v ∷ vs)
slice_get-tuples c cs q r n v vs at_q at_r e =
    slice_get-fronts c (tuples cs) q r n v vs at_q at_r (e ∙ ap (λ (k : ℕ). q * k + r) (sym (length-tuples cs)))

-- ---- the values of a tuple

pub contains-slice_get : (c : Carrier) (k : ℕ) (v : Value) → slice_get c k ≡ Some v → contains c v ≡ true
contains-slice_get [] k v e = absurd (none-some v e)
contains-slice_get (u ∷ c) zero v e = ap (λ (t : Bool). t || contains c v) ((Decides-int_eq u v).1 (same_Some u v e))
contains-slice_get (u ∷ c) (suc k) v e = or_right (int_eq u v) (contains c v) (contains-slice_get c k v e)

-- a value of a carrier has a place in it
pub record HasPlace (c : Carrier) (v : Value) : Type 0 where
  pub place : ℕ
  pub at : slice_get c place ≡ Some v

pub place-contains : (c : Carrier) (v : Value) → contains c v ≡ true → HasPlace c v
place-contains [] v e = absurd (true≢false (sym e))
place-contains (u ∷ c) v e =
    elim (or_cases (int_eq u v) (contains c v) e) [
      | inl h ↦ record { place = 0; at = ap Some ((Decides-int_eq u v).0 h) }
      | inr h ↦ (let rest : HasPlace c v = place-contains c v h in record { place = suc rest.place; at = rest.at })
    ]

pub is_within-slice_get : (cs : List Carrier) (n : ℕ) (ws : Tuple) → slice_get (tuples cs) n ≡ Some ws → is_within cs ws ≡ true
is_within-slice_get [] zero ws e = ap (is_within []) (sym (same_Some [] ws e))
is_within-slice_get [] (suc n) ws e = absurd (none-some ws e)
is_within-slice_get (c ∷ cs) n ws e =
    let front : IsFront c (tuples cs) n ws = fronts_cases c (tuples cs) n ws e in
    ap (is_within (c ∷ cs)) (sym front.parts)
    ∙ and_from (contains c front.value) (is_within cs front.rest) (contains-slice_get c front.value_place front.value front.value_at) (is_within-slice_get cs front.rest_place front.rest front.rest_at)

pub record HasTuplePlace (cs : List Carrier) (vs : Tuple) : Type 0 where
  pub place : ℕ
  pub at : slice_get (tuples cs) place ≡ Some vs

pub place-is_within : (cs : List Carrier) (vs : Tuple) → is_within cs vs ≡ true → HasTuplePlace cs vs
place-is_within [] [] e = record { place = 0; at = refl }
place-is_within [] (v ∷ vs) e = absurd (true≢false (sym e))
place-is_within (c ∷ cs) [] e = absurd (true≢false (sym e))
place-is_within (c ∷ cs) (v ∷ vs) e =
    let p = and_parts (contains c v) (is_within cs vs) e in
    let first : HasPlace c v = place-contains c v p.0 in
    let rest : HasTuplePlace cs vs = place-is_within cs vs p.1 in
    record { place = first.place * tuple_count cs + rest.place; at = slice_get-tuples c cs first.place rest.place (first.place * tuple_count cs + rest.place) v vs first.at rest.at refl }

-- ---- the place by its formula

-- each value of the carrier stands at one place, the one that carrier_place gives
abbrev pub IsDistinct : Carrier → Type 0
IsDistinct c = (k : ℕ) (v : Value) → slice_get c k ≡ Some v → k ≡ carrier_place c v

abbrev pub AreDistinct : List Carrier → Type 0
AreDistinct [] = Unit {0}
AreDistinct (c ∷ cs) = IsDistinct c × AreDistinct cs

pub mixed_radix-slice_get : (cs : List Carrier) (n : ℕ) (ws : Tuple) → AreDistinct cs → slice_get (tuples cs) n ≡ Some ws → n ≡ mixed_radix cs ws
mixed_radix-slice_get [] zero ws distinct e = refl
mixed_radix-slice_get [] (suc n) ws distinct e = absurd (none-some ws e)
mixed_radix-slice_get (c ∷ cs) n ws distinct e =
    let front : IsFront c (tuples cs) n ws = fronts_cases c (tuples cs) n ws e in
    let first : front.value_place ≡ carrier_place c front.value = distinct.0 front.value_place front.value front.value_at in
    let rest : front.rest_place ≡ mixed_radix cs front.rest = mixed_radix-slice_get cs front.rest_place front.rest distinct.1 front.rest_at in
    front.place
    ∙ (ap (λ (m : ℕ). front.value_place * m + front.rest_place) (length-tuples cs)
    ∙ (ap (λ (q : ℕ). q * tuple_count cs + front.rest_place) first
    ∙ (ap (λ (r : ℕ). carrier_place c front.value * tuple_count cs + r) rest
    ∙ ap (mixed_radix (c ∷ cs)) front.parts)))
