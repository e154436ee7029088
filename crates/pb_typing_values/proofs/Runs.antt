-- Carriers as runs of whole numbers, and the tuples of carriers in order: the first one, the one behind another, and the
-- last one.
use Rattle.std.proofs.Common.{◌≡◌, ℕ, zero, suc, ◌+◌, ◌*◌, ◌<◌, true, List, [], ◌∷◌, map, length, drop, Some, ◌⊎◌, inl, inr, refl, sym, ◌∙◌, ap, arith, ℤ, pos, ◌+ℤ◌, ◌-ℤ◌, ◌<ℤ◌, ◌≤ℤ◌}
use Rattle.std.specs.Prelude.{⊤}
use Rattle.std.specs.List.{slice_get}
use Rattle.std.proofs.lemmas.Int.{ints}
use Rattle.std.proofs.lemmas.Option.{same_Some, slice_get_within}
use Rattle.std.proofs.Math.Nat.{suc-mul}
use Rattle.pb_base_values.specs.Carrier as carriers
use Rattle.pb_base_values.specs.Carrier.{Value, Tuple, numbers_from, interval, at_least_none, tuples, tuple_count}
use Rattle.pb_base_values.proofs.Tuples.{length-tuples}
use Rattle.pb_sorts.specs.declared.carrier.Carrier.{Carrier}
use Rattle.pb_sorts.specs.declared.carrier.Carrier.TheVariants as variants
use Rattle.pb_sorts.specs.Carrier.{values_of}
use Rattle.pb_sorts.proofs.Intervals.{length-numbers_from, slice_get-numbers_from, count-interval}
use Rattle.pb_sorts.proofs.TuplePlaces.{contains-slice_get}
use Rattle.pb_sorts.proofs.Places.{IsFront, fronts_cases, slice_get-fronts}

-- ---- the values of a carrier

abbrev pub first_of : carriers.Carrier → Value
first_of [] = pos 0
first_of (v ∷ vs) = v

abbrev pub least : Carrier → Value
least c = first_of (values_of c)

-- the number behind the last value
abbrev pub behind : Carrier → Value
behind c = least c +ℤ pos (length (values_of c))

record IsRun (vs : carriers.Carrier) : Type 0 where
  low : ℤ
  count : ℕ
  some : 0 < count
  is : vs ≡ numbers_from low count

run-of : (c : Carrier) → IsRun (values_of c)
run-of variants.Bool = record { low = pos 0; count = 2; some = omega arith; is = refl }
run-of (variants.Enum e) = record { low = pos 0; count = e.count; some = e.not_empty; is = refl }
run-of (variants.Range r) = record {
  low = r.low;
  count = at_least_none (r.high -ℤ r.low +ℤ pos 1);
  some = omega (arith, ints, count-interval r.low r.high r.not_empty, r.not_empty);
  is = refl;
}

first-low : (low : ℤ) (n : ℕ) → 0 < n → first_of (numbers_from low n) ≡ low
first-low low zero some = absurd (omega (arith, some))
first-low low (suc n) some = refl

-- what the bounds of a carrier say
pub bounds-least : (c : Carrier) (low high : ℤ) → values_of c ≡ interval low high → low ≤ℤ high → low ≡ least c
bounds-least c low high is order =
    let some : 0 < at_least_none (high -ℤ low +ℤ pos 1) = omega (arith, ints, count-interval low high order, order) in
    sym (ap first_of is ∙ first-low low (at_least_none (high -ℤ low +ℤ pos 1)) some)

pub bounds-behind : (c : Carrier) (low high : ℤ) → values_of c ≡ interval low high → low ≤ℤ high → high +ℤ pos 1 ≡ behind c
bounds-behind c low high is order =
    let n : ℕ = at_least_none (high -ℤ low +ℤ pos 1) in
    let count : pos (at_least_none (high -ℤ low +ℤ pos 1)) ≡ high -ℤ low +ℤ pos 1 = count-interval low high order in
    let long : length (values_of c) ≡ n = ap length is ∙ length-numbers_from low n in
    let first : low ≡ least c = bounds-least c low high is order in
    let end : high +ℤ pos 1 ≡ low +ℤ pos n = omega (arith, ints, count) in
    end ∙ (ap (λ (v : ℤ). v +ℤ pos n) first ∙ ap (λ (m : ℕ). least c +ℤ pos m) (sym long))

run-first : (c : Carrier) → slice_get (values_of c) 0 ≡ Some (least c)
run-first c =
    let run : IsRun (values_of c) = run-of c in
    ap (λ (vs : carriers.Carrier). slice_get vs 0) run.is
    ∙ (slice_get-numbers_from run.low run.count 0 run.some
    ∙ ap Some (omega (arith, ints) ∙ sym (ap first_of run.is ∙ first-low run.low run.count run.some)))

-- the place of a value, by the first value
value-at : (c : Carrier) (q : ℕ) (v : Value) → slice_get (values_of c) q ≡ Some v → v ≡ least c +ℤ pos q
value-at c q v at =
    let run : IsRun (values_of c) = run-of c in
    let within : q < length (values_of c) = slice_get_within (values_of c) q v at in
    let long : length (values_of c) ≡ run.count = ap length run.is ∙ length-numbers_from run.low run.count in
    let first : least c ≡ run.low = ap first_of run.is ∙ first-low run.low run.count run.some in
    let here : slice_get (values_of c) q ≡ Some (run.low +ℤ pos q) =
    ap (λ (vs : carriers.Carrier). slice_get vs q) run.is ∙ slice_get-numbers_from run.low run.count q (omega (arith, within, long)) in
    same_Some v (run.low +ℤ pos q) (sym at ∙ here) ∙ ap (λ (l : ℤ). l +ℤ pos q) (sym first)

run-next : (c : Carrier) (q : ℕ) (v : Value) → slice_get (values_of c) q ≡ Some v → (v +ℤ pos 1) <ℤ behind c → slice_get (values_of c) (suc q) ≡ Some (v +ℤ pos 1)
run-next c q v at more =
    let run : IsRun (values_of c) = run-of c in
    let long : length (values_of c) ≡ run.count = ap length run.is ∙ length-numbers_from run.low run.count in
    let first : least c ≡ run.low = ap first_of run.is ∙ first-low run.low run.count run.some in
    let is : v ≡ least c +ℤ pos q = value-at c q v at in
    let below : suc q < length (values_of c) = omega (arith, ints, more, is) in
    ap (λ (vs : carriers.Carrier). slice_get vs (suc q)) run.is
    ∙ (slice_get-numbers_from run.low run.count (suc q) (omega (arith, below, long))
    ∙ ap Some (omega (arith, ints, is, first)))

run-last : (c : Carrier) (q : ℕ) (v : Value) → slice_get (values_of c) q ≡ Some v → behind c ≤ℤ (v +ℤ pos 1) → length (values_of c) ≡ suc q
run-last c q v at none =
    let is : v ≡ least c +ℤ pos q = value-at c q v at in
    let within : q < length (values_of c) = slice_get_within (values_of c) q v at in
    omega (arith, ints, is, within, none)

-- ---- tuples

-- no value has one behind it
abbrev pub AreLast : List Carrier → Tuple → Type 0
AreLast [] vs = ⊤
AreLast (c ∷ cs) [] = ⊤
AreLast (c ∷ cs) (v ∷ vs) = (behind c ≤ℤ (v +ℤ pos 1)) × AreLast cs vs

-- some value is the next one, those before it stay, and those behind it, which were the last ones, are the first ones
abbrev pub AreNext : List Carrier → Tuple → Tuple → Type 0
AreNext (c ∷ cs) (v ∷ vs) (w ∷ ws) =
    ((w ≡ v) × AreNext cs vs ws) ⊎ (((v +ℤ pos 1) <ℤ behind c) × (w ≡ v +ℤ pos 1) × AreLast cs vs × (ws ≡ map least cs))
AreNext [] vs ws = ⊥
AreNext (c ∷ cs) [] ws = ⊥
AreNext (c ∷ cs) (v ∷ vs) [] = ⊥

abbrev pub all_tuples : List Carrier → List Tuple
all_tuples cs = tuples (map values_of cs)

pub first-tuple : (cs : List Carrier) → slice_get (all_tuples cs) 0 ≡ Some (map least cs)
first-tuple [] = refl
first-tuple (c ∷ cs) = slice_get-fronts (values_of c) (all_tuples cs) 0 0 0 (least c) (map least cs) (run-first c) (first-tuple cs) (omega arith)

-- a tuple's first value and the others, each at its place
record IsSplit (c : Carrier) (cs : List Carrier) (k : ℕ) (v : Value) (vs : Tuple) : Type 0 where
  first : ℕ
  rest : ℕ
  first_at : slice_get (values_of c) first ≡ Some v
  rest_at : slice_get (all_tuples cs) rest ≡ Some vs
  place : k ≡ first * length (all_tuples cs) + rest

split : (c : Carrier) (cs : List Carrier) (k : ℕ) (v : Value) (vs : Tuple) → slice_get (all_tuples (c ∷ cs)) k ≡ Some (v ∷ vs) → IsSplit c cs k v vs
split c cs k v vs at =
    let front : IsFront (values_of c) (all_tuples cs) k (v ∷ vs) = fronts_cases (values_of c) (all_tuples cs) k (v ∷ vs) at in
    record {
      first = front.value_place;
      rest = front.rest_place;
      first_at = front.value_at ∙ ap (λ (ws : Tuple). Some (first_of ws)) front.parts;
      rest_at = front.rest_at ∙ ap (λ (ws : Tuple). Some (drop 1 ws)) front.parts;
      place = front.place;
    }

no-empty : (c : Carrier) (cs : List Carrier) (k : ℕ) → slice_get (all_tuples (c ∷ cs)) k ≡ Some [] → ⊥
no-empty c cs k at =
    let front : IsFront (values_of c) (all_tuples cs) k [] = fronts_cases (values_of c) (all_tuples cs) k [] at in
    let none : length (front.value ∷ front.rest) ≡ 0 = ap length front.parts in
    omega (arith, none)

pub last-tuple : (cs : List Carrier) (vs : Tuple) (k : ℕ) → AreLast cs vs → slice_get (all_tuples cs) k ≡ Some vs → length (all_tuples cs) ≡ k + 1
last-tuple [] vs k last at = let within : k < 1 = slice_get_within ([] ∷ []) k vs at in omega (arith, within)
last-tuple (c ∷ cs) [] k last at = absurd (no-empty c cs k at)
last-tuple (c ∷ cs) (v ∷ vs) k last at =
    let s : IsSplit c cs k v vs = split c cs k v vs at in
    let more : length (all_tuples cs) ≡ s.rest + 1 = last-tuple cs vs s.rest last.1 s.rest_at in
    let long : length (values_of c) ≡ suc s.first = run-last c s.first v s.first_at last.0 in
    let all : length (all_tuples (c ∷ cs)) ≡ suc s.first * length (all_tuples cs) =
    length-tuples (map values_of (c ∷ cs))
    ∙ (ap (λ (n : ℕ). length (values_of c) * n) (sym (length-tuples (map values_of cs))) ∙ ap (λ (n : ℕ). n * length (all_tuples cs)) long) in
    let turn : suc s.first * length (all_tuples cs) ≡ s.first * length (all_tuples cs) + length (all_tuples cs) = suc-mul s.first (length (all_tuples cs)) in
    omega (arith, all, turn, more, s.place)

pub next-tuple : (cs : List Carrier) (vs ws : Tuple) (k : ℕ) → AreNext cs vs ws → slice_get (all_tuples cs) k ≡ Some vs → slice_get (all_tuples cs) (k + 1) ≡ Some ws
next-tuple [] vs ws k next at = absurd next
next-tuple (c ∷ cs) [] ws k next at = absurd next
next-tuple (c ∷ cs) (v ∷ vs) [] k next at = absurd next
next-tuple (c ∷ cs) (v ∷ vs) (w ∷ ws) k next at =
    let s : IsSplit c cs k v vs = split c cs k v vs at in
    elim next [
      | inl e ↦ slice_get-fronts (values_of c) (all_tuples cs) s.first (s.rest + 1) (k + 1) w ws (s.first_at ∙ ap Some (sym e.0)) (next-tuple cs vs ws s.rest e.1 s.rest_at) (omega (arith, s.place))
      | inr e ↦
          let more : length (all_tuples cs) ≡ s.rest + 1 = last-tuple cs vs s.rest e.2 s.rest_at in
          let turn : suc s.first * length (all_tuples cs) ≡ s.first * length (all_tuples cs) + length (all_tuples cs) = suc-mul s.first (length (all_tuples cs)) in
          slice_get-fronts (values_of c) (all_tuples cs) (suc s.first) 0 (k + 1) w ws
          (run-next c s.first v s.first_at e.0 ∙ ap Some (sym e.1)) (first-tuple cs ∙ ap Some (sym e.3)) (omega (arith, s.place, more, turn))
    ]

pub run-contains : (c : Carrier) → carriers.contains (values_of c) (least c) ≡ true
run-contains c = contains-slice_get (values_of c) 0 (least c) (run-first c)
