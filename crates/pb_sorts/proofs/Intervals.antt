-- The list of the whole numbers from one on: what stands at a place, how long it is, and what it has.
use Rattle.std.proofs.Common.{◌≡◌, ℕ, zero, suc, ◌<◌, true, length, Some, refl, sym, ◌∙◌, ap, arith, ℤ, pos, negsuc, ◌+ℤ◌, ◌-ℤ◌, ◌<ℤ◌, ◌≤ℤ◌, int_eq, true≢false, inl, inr}
use Rattle.std.specs.List.{slice_get}
use Rattle.std.proofs.lemmas.Int.{ints, by_lt_z}
use lib.Signed.{le_z}
use Rattle.std.specs.Bool.{Decides}
use Rattle.std.proofs.lemmas.Bool.Decides.{Decides-int_eq, same_from_decides}
use Rattle.std.proofs.lemmas.Bool.{or_cases, or_left, or_right}
use Rattle.pb_base_values.specs.Carrier.{Carrier, Value, contains, numbers_from, at_least_none, interval}

pub length-numbers_from : (low : ℤ) (n : ℕ) → length (numbers_from low n) ≡ n
length-numbers_from low zero = refl
length-numbers_from low (suc n) = ap suc (length-numbers_from (low +ℤ pos 1) n)

pub slice_get-numbers_from : (low : ℤ) (n k : ℕ) → k < n → slice_get (numbers_from low n) k ≡ Some (low +ℤ pos k)
slice_get-numbers_from low zero k below = absurd (omega (arith, below))
slice_get-numbers_from low (suc n) zero below = ap Some (omega (arith, ints))
slice_get-numbers_from low (suc n) (suc k) below =
    slice_get-numbers_from (low +ℤ pos 1) n k (omega (arith, below)) ∙ ap Some (omega (arith, ints))

-- a number is in the list exactly where it is within the bounds
pub contains-numbers_from : (low : ℤ) (n : ℕ) (v : Value) → Decides (contains (numbers_from low n) v) ((low ≤ℤ v) × (v <ℤ (low +ℤ pos n)))
contains-numbers_from low zero v = (λ e. absurd (true≢false (sym e)), λ p. absurd (omega (arith, ints, p.0, p.1)))
contains-numbers_from low (suc n) v =
    let rest : Decides (contains (numbers_from (low +ℤ pos 1) n) v) (((low +ℤ pos 1) ≤ℤ v) × (v <ℤ ((low +ℤ pos 1) +ℤ pos n))) = contains-numbers_from (low +ℤ pos 1) n v in (
      λ e. elim (or_cases (int_eq low v) (contains (numbers_from (low +ℤ pos 1) n) v) e) [
        | inl h ↦ let same : low ≡ v = (Decides-int_eq low v).0 h in (omega (arith, ints, same), omega (arith, ints, same))
        | inr h ↦ let p : ((low +ℤ pos 1) ≤ℤ v) × (v <ℤ ((low +ℤ pos 1) +ℤ pos n)) = rest.0 h in (omega (arith, ints, p.0), omega (arith, ints, p.1))
      ],
      λ p. by_lt_z low v
          (λ above. or_right (int_eq low v) (contains (numbers_from (low +ℤ pos 1) n) v) (rest.1 (omega (arith, ints, above), omega (arith, ints, p.1))))
          (λ below. or_left (int_eq low v) (contains (numbers_from (low +ℤ pos 1) n) v) ((Decides-int_eq low v).1 (omega (arith, ints, below, p.0)))),
    )

-- ---- the numbers from low to high, with n the count of them

size : (low high : ℤ) (n : ℕ) → pos n ≡ high -ℤ low +ℤ pos 1 → interval low high ≡ numbers_from low n
size low high n e = sym (ap (λ (z : ℤ). numbers_from low (at_least_none z)) e)

pub length-interval : (low high : ℤ) (n : ℕ) → pos n ≡ high -ℤ low +ℤ pos 1 → length (interval low high) ≡ n
length-interval low high n e = ap length (size low high n e) ∙ length-numbers_from low n

-- so many numbers there are
pub count-interval : (low high : ℤ) → low ≤ℤ high → pos (at_least_none (high -ℤ low +ℤ pos 1)) ≡ high -ℤ low +ℤ pos 1
count-interval low high h = not_negative (high -ℤ low +ℤ pos 1) (omega (arith, ints, h))
  where
    not_negative : (z : ℤ) → pos 0 ≤ℤ z → pos (at_least_none z) ≡ z
    not_negative (pos n) h = refl
    not_negative (negsuc n) h = absurd (omega (arith, ints, h))

pub slice_get-interval : (low high : ℤ) (k : ℕ) → (low +ℤ pos k) ≤ℤ high → slice_get (interval low high) k ≡ Some (low +ℤ pos k)
slice_get-interval low high k h =
    let count : pos (at_least_none (high -ℤ low +ℤ pos 1)) ≡ high -ℤ low +ℤ pos 1 = count-interval low high (omega (arith, ints, h)) in
    slice_get-numbers_from low (at_least_none (high -ℤ low +ℤ pos 1)) k (omega (arith, ints, h, count))

pub contains-interval : (low high v : ℤ) → low ≤ℤ high → Decides (contains (interval low high) v) ((low ≤ℤ v) × (v ≤ℤ high))
contains-interval low high v h =
    let count : pos (at_least_none (high -ℤ low +ℤ pos 1)) ≡ high -ℤ low +ℤ pos 1 = count-interval low high h in
    let inside : Decides (contains (interval low high) v)
    ((low ≤ℤ v) × (v <ℤ (low +ℤ pos (at_least_none (high -ℤ low +ℤ pos 1))))) =
    contains-numbers_from low (at_least_none (high -ℤ low +ℤ pos 1)) v in (
      λ e. let p : (low ≤ℤ v) × (v <ℤ (low +ℤ pos (at_least_none (high -ℤ low +ℤ pos 1)))) = inside.0 e in (p.0, omega (arith, ints, p.1, count)),
      λ p. inside.1 (p.0, omega (arith, ints, p.1, count)),
    )

-- ---- a carrier that is the numbers from low to high, as the code asks of it

-- where v is not below it, it has v exactly where v is not above it
pub contains-not_below : (c : Carrier) (low high v a b : ℤ) → c ≡ interval low high → low ≤ℤ high → low ≤ℤ v → a ≡ v → b ≡ high → le_z a b ≡ contains c v
contains-not_below c low high v a b is order above a_is b_is =
    let all : Decides (contains (interval low high) v) ((low ≤ℤ v) × (v ≤ℤ high)) = contains-interval low high v order in
    let test : Decides (le_z a b) ((low ≤ℤ v) × (v ≤ℤ high)) = (λ e. (above, grind (arith, ints, e, a_is, b_is)), λ p. grind (arith, ints, p.1, a_is, b_is)) in
    same_from_decides (le_z a b) (contains (interval low high) v) test all ∙ sym (ap (λ (d : Carrier). contains d v) is)

-- below it, it has no v
pub contains-below : (c : Carrier) (low high v a b : ℤ) → c ≡ interval low high → low ≤ℤ high → v <ℤ low → a ≡ low → b ≡ v → le_z a b ≡ contains c v
contains-below c low high v a b is order below a_is b_is =
    let all : Decides (contains (interval low high) v) ((low ≤ℤ v) × (v ≤ℤ high)) = contains-interval low high v order in
    let test : Decides (le_z a b) ((low ≤ℤ v) × (v ≤ℤ high)) = (λ e. absurd (grind (arith, ints, e, a_is, b_is, below)), λ p. absurd (omega (arith, ints, p.0, below))) in
    same_from_decides (le_z a b) (contains (interval low high) v) test all ∙ sym (ap (λ (d : Carrier). contains d v) is)

-- what it has lies within the bounds
pub within-contains : (c : Carrier) (low high v : ℤ) → c ≡ interval low high → low ≤ℤ high → contains c v ≡ true → (low ≤ℤ v) × (v ≤ℤ high)
within-contains c low high v is order has = (contains-interval low high v order).0 (ap (λ (d : Carrier). contains d v) (sym is) ∙ has)

-- the number at a place
pub slice_get-from_interval : (c : Carrier) (low high v : ℤ) (k : ℕ) → c ≡ interval low high → v ≡ low +ℤ pos k → v ≤ℤ high → slice_get c k ≡ Some v
slice_get-from_interval c low high v k is v_is below =
    ap (λ (d : Carrier). slice_get d k) is ∙ (slice_get-interval low high k (omega (arith, ints, v_is, below)) ∙ ap Some (sym v_is))

pub length-from_interval : (c : Carrier) (low high : ℤ) (n : ℕ) → c ≡ interval low high → pos n ≡ high -ℤ low +ℤ pos 1 → length c ≡ n
length-from_interval c low high n is e = ap length is ∙ length-interval low high n e

-- a place below its length lies within the bounds
pub place_within : (c : Carrier) (low high : ℤ) (k : ℕ) → c ≡ interval low high → low ≤ℤ high → k < length c → (low +ℤ pos k) ≤ℤ high
place_within c low high k is order below =
    let count : pos (at_least_none (high -ℤ low +ℤ pos 1)) ≡ high -ℤ low +ℤ pos 1 = count-interval low high order in
    let long : length c ≡ at_least_none (high -ℤ low +ℤ pos 1) = length-from_interval c low high (at_least_none (high -ℤ low +ℤ pos 1)) is count in
    omega (arith, ints, count, long, below)
