-- The values that a group's number stands for, and the number that they make.
use Rattle.std.proofs.Common.{◌≡◌, ℕ, zero, suc, ◌+◌, ◌*◌, ◌/◌, ◌%◌, ◌<◌, ℤ, pos, negsuc, ◌+ℤ◌, ◌-ℤ◌, ◌≤ℤ◌, ◌<ℤ◌, Bool, true, false, true≢false, ◌&&◌, ◌||◌, List, [], ◌∷◌, map, length, int_eq, inl, inr, refl, sym, ap, ◌∙◌, subst, arith}
use Rattle.std.specs.Prelude.{int_le, int_lt}
use Rattle.std.proofs.lemmas.Int.{ints}
use Rattle.std.proofs.Math.Nat.{div-lt_iff_lt-mul, mod-lt, mod-mod_of_dvd, dvd-mul_left, div-add-mod', mul_assoc, mul-add-div_right, add-mul, div-eq_of_lt, zero-mul}
use Rattle.std.proofs.lemmas.Bool.{or_cases, or_right, and_from, and_parts}
use Rattle.std.proofs.lemmas.Bool.Decides.{Decides-int_eq}
use Rattle.pb_base_values.specs.Carrier.{Carrier, Value, numbers_from, contains, is_within, tuple_count}
use Rattle.pb_protocol_packing.specs.Packing.{Member, capacity}
use Rattle.pb_protocol_packing.specs.Unpacked.{digits}

abbrev pub carriers_at : List Member → List Carrier
carriers_at ps = map (λ (p : Member). numbers_from p.low p.size) ps

-- ---- numbers

pub quotient-below : (k a c : ℕ) → k < a * c → k / c < a
quotient-below k a zero h = absurd (omega arith)
quotient-below k a (suc c) h = (div-lt_iff_lt-mul (omega arith)).1 h

pub rest-below : (k a c : ℕ) → k < a * c → k % c < c
rest-below k a zero h = absurd (omega arith)
rest-below k a (suc c) h = mod-lt k (omega arith)

pub positive : (k a c : ℕ) → k < a * c → 0 < c
positive k a zero h = absurd (omega arith)
positive k a (suc c) h = omega arith

pub made-below : (a c d e : ℕ) → d < a → e < c → d * c + e < a * c
made-below zero c d e below under = absurd (omega arith)
made-below (suc a) c zero e below under = omega arith
made-below (suc a) c (suc d) e below under = omega (arith, made-below a c d e (omega arith) under)

-- the digits behind those of a number that are dropped
pub rest-rest : (k a c : ℕ) → k % (a * c) % c ≡ k % c
rest-rest k a c = mod-mod_of_dvd c k (dvd-mul_left c a)

pub none-between : (k c : ℕ) → 0 < c → k % c / c * c ≡ 0
none-between k c some = ap (λ j. j * c) (div-eq_of_lt (mod-lt k some)) ∙ zero-mul c

-- the digits from c on are those from a * c on and those between
pub quotient-parts : (k a c : ℕ) → 0 < c → k / c * c ≡ k / (a * c) * (a * c) + k % (a * c) / c * c
quotient-parts k a c some =
    let w = a * c in
    let q = k / w in
    ap (λ j. j / c * c) (sym (div-add-mod' k w) ∙ ap (λ j. j + k % w) (sym (mul_assoc q a c)))
    ∙ ap (λ j. j * c) (mul-add-div_right some (q * a) (k % w))
    ∙ add-mul (q * a) (k % w / c) c
    ∙ ap (λ j. j + k % w / c * c) (mul_assoc q a c)

-- ---- carriers

pub contains-at : (low : ℤ) (n d : ℕ) → d < n → contains (numbers_from low n) (low +ℤ pos d) ≡ true
contains-at low zero d below = absurd (omega arith)
contains-at low (suc n) zero below = ap (λ b. b || contains (numbers_from (low +ℤ pos 1) n) (low +ℤ pos 0)) ((Decides-int_eq low (low +ℤ pos 0)).1 (omega (arith, ints)))
contains-at low (suc n) (suc d) below =
    or_right (int_eq low (low +ℤ pos (suc d))) _
    (subst (λ (v : Value). contains (numbers_from (low +ℤ pos 1) n) v ≡ true) (omega (arith, ints)) (contains-at (low +ℤ pos 1) n d (omega arith)))

pub contained : (low : ℤ) (n : ℕ) (v : Value) → contains (numbers_from low n) v ≡ true → (d : ℕ) × (d < n) × (v ≡ low +ℤ pos d)
contained low zero v e = absurd (true≢false (sym e))
contained low (suc n) v e =
    elim (or_cases (int_eq low v) (contains (numbers_from (low +ℤ pos 1) n) v) e) [
      | inl here ↦ let h : low ≡ v = (Decides-int_eq low v).0 here in (0, omega arith, omega (arith, ints))
      | inr later ↦ let h = contained (low +ℤ pos 1) n v later in (suc h.0, omega (arith, h.1), omega (arith, ints, h.2))
    ]

pub same-bool : (b c : Bool) → (b ≡ true → c ≡ true) → (c ≡ true → b ≡ true) → b ≡ c
same-bool true c f g = sym (f refl)
same-bool false true f g = g refl
same-bool false false f g = refl

-- a whole number is in its carrier where it is within the bounds
pub contains-bounds : (low : ℤ) (n : ℕ) (v : Value) → contains (numbers_from low n) v ≡ (int_le low v && int_lt v (low +ℤ pos n))
contains-bounds low n v =
    same-bool (contains (numbers_from low n) v) (int_le low v && int_lt v (low +ℤ pos n))
    (λ e. let h = contained low n v e in and_from _ _ (le-true low v (omega (arith, ints, h.2))) (lt-true v (low +ℤ pos n) (omega (arith, ints, h.1, h.2))))
    (λ e. let parts = and_parts (int_le low v) (int_lt v (low +ℤ pos n)) e in
    let h = above low v (le-from low v parts.0) in
    let below = lt-from v (low +ℤ pos n) parts.1 in
    subst (λ (u : Value). contains (numbers_from low n) u ≡ true) (sym h.1) (contains-at low n h.0 (omega (arith, ints, h.1, below))))
  where
    le-true : (a b : ℤ) → a ≤ℤ b → int_le a b ≡ true
    le-true a b h = grind (arith, ints)

    lt-true : (a b : ℤ) → a <ℤ b → int_lt a b ≡ true
    lt-true a b h = grind (arith, ints)

    le-from : (a b : ℤ) → int_le a b ≡ true → a ≤ℤ b
    le-from a b h = grind (arith, ints)

    lt-from : (a b : ℤ) → int_lt a b ≡ true → a <ℤ b
    lt-from a b h = grind (arith, ints)

    above : (a b : ℤ) → a ≤ℤ b → (d : ℕ) × (b ≡ a +ℤ pos d)
    above a b h = by (b -ℤ a) refl
      where
        by : (z : ℤ) → b -ℤ a ≡ z → (d : ℕ) × (b ≡ a +ℤ pos d)
        by (pos d) e = (d, omega (arith, ints))
        by (negsuc d) e = absurd (omega (arith, ints))

pub contains-end : (n : ℕ) → contains (numbers_from (pos 0) n) (pos n) ≡ false
contains-end n = by (contains (numbers_from (pos 0) n) (pos n)) refl
  where
    by : (b : Bool) → contains (numbers_from (pos 0) n) (pos n) ≡ b → b ≡ false
    by true e = let h = contained (pos 0) n (pos n) e in absurd (omega (arith, ints, h.1, h.2))
    by false e = refl

pub digits-within : (ps : List Member) (k : ℕ) → k < capacity ps → is_within (carriers_at ps) (digits ps k) ≡ true
digits-within [] k below = refl
digits-within (p ∷ ps) k below =
    and_from _ _ (contains-at p.low p.size (k / capacity ps) (quotient-below k p.size (capacity ps) below)) (digits-within ps (k % capacity ps) (rest-below k p.size (capacity ps) below))

pub length-numbers : (low : ℤ) (n : ℕ) → length (numbers_from low n) ≡ n
length-numbers low zero = refl
length-numbers low (suc n) = ap suc (length-numbers (low +ℤ pos 1) n)

pub count-carriers : (ps : List Member) → tuple_count (carriers_at ps) ≡ capacity ps
count-carriers [] = refl
count-carriers (p ∷ ps) = ap (λ n. n * tuple_count (carriers_at ps)) (length-numbers p.low p.size) ∙ ap (λ n. p.size * n) (count-carriers ps)

pub length-digits : (ps : List Member) (k : ℕ) → length (digits ps k) ≡ length (carriers_at ps)
length-digits [] k = refl
length-digits (p ∷ ps) k = ap suc (length-digits ps (k % capacity ps))
