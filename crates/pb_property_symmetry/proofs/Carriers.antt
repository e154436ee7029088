-- Carriers of sorts are numbers in a row, and each value has its own place there.
use Rattle.std.proofs.Common.{◌≡◌, ℕ, zero, suc, ◌<◌, ℤ, pos, ◌+ℤ◌, ◌-ℤ◌, Bool, true, false, List, [], ◌∷◌, length, get_or, Option, Some, None, int_eq, refl, sym, ap, ◌∙◌, subst, arith}
use Rattle.std.specs.Prelude.{codes}
use Rattle.std.proofs.lemmas.Int.{ints}
use Rattle.std.proofs.lemmas.Bool.{false_from_ne_true}
use Rattle.std.proofs.lemmas.Bool.Decides.{Decides-int_eq}
use Rattle.std.proofs.lemmas.List.Sums.{position_or_len_is}
use Rattle.std.proofs.lemmas.Option.{same_Some, slice_get_within, get_or_from_slice_get}
use Rattle.pb_base_values.specs.Carrier.{Carrier, Value, at_least_none, numbers_from, contains}
use Rattle.pb_sorts.specs.Instance.{carrier_place}
use Rattle.pb_sorts.proofs.Intervals.{length-numbers_from, slice_get-numbers_from}
use Rattle.pb_sorts.proofs.TuplePlaces.{IsDistinct, AreDistinct}
use Rattle.pb_text_meaning.specs.Syntax.{Name, same_name, Variable, Sort, Struct, Alias, Range, Spec}
use Rattle.pb_text_meaning.specs.Sorts.{range_of, declared, carrier_by, carrier_within, carrier_of}
use Rattle.pb_text_meaning.specs.Formula.{carriers_of}
use Rattle.pb_protocol_unfolding.proofs.WrittenLaws.{value-self}
use Rattle.pb_protocol_packing.proofs.Digits.{contained}

-- ---- places of numbers in a row

pub place-at : (low : ℤ) (n d : ℕ) → d < n → carrier_place (numbers_from low n) (low +ℤ pos d) ≡ d
place-at low n d below =
    let c = numbers_from low n in
    let v = low +ℤ pos d in
    let long = length-numbers_from low n in
    position_or_len_is (λ (u : Value). int_eq u v) c d v (omega (arith, long))
    (λ j less. false_from_ne_true (int_eq (get_or c j v) v) (λ same. apart j less (sym (read j (omega (arith, less))) ∙ (Decides-int_eq (get_or c j v) v).0 same)))
    (λ inside. ap (λ (u : Value). int_eq u v) (read d below) ∙ value-self v)
  where
    read : (j : ℕ) → j < n → get_or (numbers_from low n) j (low +ℤ pos d) ≡ low +ℤ pos j
    read j inside = get_or_from_slice_get (numbers_from low n) j (low +ℤ pos j) (low +ℤ pos d) (slice_get-numbers_from low n j inside)

    apart : (j : ℕ) → j < d → low +ℤ pos j ≡ low +ℤ pos d → ⊥
    apart j less same = omega (arith, ints, less, same)

-- a value stands where its distance from the lowest is
pub place-number : (low : ℤ) (n : ℕ) (v : Value) → contains (numbers_from low n) v ≡ true → carrier_place (numbers_from low n) v ≡ at_least_none (v -ℤ low)
place-number low n v e =
    let h = contained low n v e in
    let far : v -ℤ low ≡ pos h.0 = omega (arith, ints, h.2) in
    ap (carrier_place (numbers_from low n)) h.2 ∙ (place-at low n h.0 h.1 ∙ sym (ap at_least_none far))

-- ---- carriers of sorts

abbrev AreNumbers : Carrier → Type 0
AreNumbers c = (low : ℤ) × (n : ℕ) × (c ≡ numbers_from low n)

by-parts : (r : Option Range) (b : Bool) (sort : Option Sort) (target : Name → Carrier) → ((s : Name) → AreNumbers (target s)) → AreNumbers (carrier_by r b sort target)
by-parts (Some r) b sort target h = (r.low, at_least_none (r.high -ℤ r.low +ℤ pos 1), refl)
by-parts None true sort target h = (pos 0, 2, refl)
by-parts None false (Some (Struct es)) target h = (pos 0, length es, refl)
by-parts None false (Some (Alias s)) target h = h s
by-parts None false None target h = (pos 0, 0, refl)

within-numbers : (n : ℕ) (spec : Spec) (s : Name) → AreNumbers (carrier_within n spec s)
within-numbers zero spec s = (pos 0, 0, refl)
within-numbers (suc n) spec s = by-parts (range_of spec.ranges s) (same_name s (codes "Bool")) (declared spec.sorts s) (carrier_within n spec) (within-numbers n spec)

-- each number stands at one place
of-numbers : (c : Carrier) → AreNumbers c → IsDistinct c
of-numbers c (low, n, is) =
    subst IsDistinct (sym is)
    (λ k v e.
    let below : k < n = omega (arith, length-numbers_from low n, slice_get_within (numbers_from low n) k v e) in
    let same : low +ℤ pos k ≡ v = same_Some (low +ℤ pos k) v (sym (slice_get-numbers_from low n k below) ∙ e) in
    sym (place-at low n k below) ∙ ap (carrier_place (numbers_from low n)) same)

pub carriers-distinct : (spec : Spec) (xs : List Variable) → AreDistinct (carriers_of spec xs)
carriers-distinct spec [] = tt
carriers-distinct spec (x ∷ xs) = (of-numbers (carrier_of spec x.sort) (within-numbers (suc (length spec.sorts)) spec x.sort), carriers-distinct spec xs)
