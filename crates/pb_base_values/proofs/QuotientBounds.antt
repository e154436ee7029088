-- Quotients and remainders: that they divide, that no others do, and between which ends they lie.
use Rattle.std.proofs.Common.{◌≡◌, ◌↔◌, ℕ, zero, suc, ◌+◌, ◌*◌, ◌/◌, ◌<◌, ◌≤◌, sym, subst, arith, ℤ, pos, negsuc, ◌+ℤ◌, ◌*ℤ◌, ◌≤ℤ◌, ◌<ℤ◌}
use Rattle.std.proofs.lemmas.Int.{ints, by_lt_z}
use Rattle.std.proofs.Math.Nat.{lt_of_mul-lt-mul_left, mul-div-le, lt-mul-div-succ, mul-le-mul_right, mod-le}
use Rattle.pb_base_values.specs.Division.{quotient, remainder}
use Rattle.pb_base_values.specs.Laws.{IsDivision}
use Rattle.pb_base_values.proofs.Products.{Between, between_rising, between_falling, product_rises, product-succ}

-- ---- they divide, and alone

division : (a b : ℤ) → pos 1 ≤ℤ b → IsDivision a b (quotient a b) (remainder a b)
division a (pos zero) h = absurd (omega (arith, ints))
division a (negsuc b) h = absurd (omega (arith, ints))
division (pos a) (pos (suc b)) h = (omega (arith, ints), omega (arith, ints), omega (arith, ints))
division (negsuc a) (pos (suc b)) h = (omega (arith, ints), omega (arith, ints), omega (arith, ints))

-- the remainder of a larger quotient would be below 0
not_less : (a b q r p s : ℤ) → IsDivision a b q r → IsDivision a b p s → q <ℤ p → ⊥
not_less a b q r p s d e h =
    let sum = d.0 in
    let below = d.2 in
    let other = e.0 in
    let least = e.1 in
    let step = product_rises b (q +ℤ pos 1) p (omega (arith, ints)) (omega (arith, ints)) in
    let next = product-succ b q in
    omega (arith, ints)

same_quotient : (a b q r p s : ℤ) → IsDivision a b q r → IsDivision a b p s → q ≡ p
same_quotient a b q r p s d e =
    by_lt_z {P = q ≡ p} q p
    (λ less. absurd (not_less a b q r p s d e less))
    (λ rest. by_lt_z {P = q ≡ p} p q (λ less. absurd (not_less a b p s q r e d less)) (λ other. omega (arith, ints)))

same_remainder : (a b q r p s : ℤ) → IsDivision a b q r → IsDivision a b p s → r ≡ s
same_remainder a b q r p s d e =
    let same = same_quotient a b q r p s d e in
    let P : ℤ → Type 0 = λ x. a ≡ x *ℤ b +ℤ r in
    let sum = subst P same d.0 in
    let other = e.0 in
    omega (arith, ints)

pub unique : (a b q r : ℤ) → pos 1 ≤ℤ b → (IsDivision a b q r ↔ ((q ≡ quotient a b) × (r ≡ remainder a b)))
unique a b q r h =
    let d = division a b h in (
      (λ e. (same_quotient a b q r (quotient a b) (remainder a b) e d, same_remainder a b q r (quotient a b) (remainder a b) e d)),
      (λ e.
          let P : ℤ → Type 0 = λ x. IsDivision a b x (remainder a b) in
          let Q : ℤ → Type 0 = λ x. IsDivision a b q x in
          subst Q (sym e.1) (subst P (sym e.0) d)),
    )

-- ---- quotients between ends

div-le_left : (n x y : ℕ) → 0 < n → x ≤ y → x / n ≤ y / n
div-le_left n x y z h =
    let lt : x / n < y / n + 1 = lt_of_mul-lt-mul_left n (let p = mul-div-le x n in let q = lt-mul-div-succ y z in omega arith) in omega arith

div-le_right : (x n m : ℕ) → 0 < n → n ≤ m → x / m ≤ x / n
div-le_right x n m z h =
    let k : n * (x / m) ≤ m * (x / m) = mul-le-mul_right (x / m) h in
    let lt : x / m < x / n + 1 = lt_of_mul-lt-mul_left n (let p = mul-div-le x m in let q = lt-mul-div-succ x z in omega arith) in omega arith

quotient_rises : (a b d : ℤ) → pos 1 ≤ℤ d → a ≤ℤ b → quotient a d ≤ℤ quotient b d
quotient_rises a b (pos zero) z h = absurd (omega (arith, ints))
quotient_rises a b (negsuc d) z h = absurd (omega (arith, ints))
quotient_rises (pos a) (pos b) (pos (suc d)) z h = let q = div-le_left (suc d) a b (omega arith) (omega (arith, ints)) in omega (arith, ints)
quotient_rises (pos a) (negsuc b) (pos (suc d)) z h = absurd (omega (arith, ints))
quotient_rises (negsuc a) (pos b) (pos (suc d)) z h = omega (arith, ints)
quotient_rises (negsuc a) (negsuc b) (pos (suc d)) z h = let q = div-le_left (suc d) b a (omega arith) (omega (arith, ints)) in omega (arith, ints)

pub quotient_between_left : (a b l h : ℤ) → pos 1 ≤ℤ b → l ≤ℤ a → a ≤ℤ h → Between (quotient l b) (quotient a b) (quotient h b)
quotient_between_left a b l h z p q = between_rising _ _ _ (quotient_rises l a b z p) (quotient_rises a h b z q)

-- of a number that isn't below 0, quotients fall as the divisor grows; of one below 0 they rise
quotient_falls : (x : ℕ) (b d : ℤ) → pos 1 ≤ℤ b → b ≤ℤ d → quotient (pos x) d ≤ℤ quotient (pos x) b
quotient_falls x (pos zero) d z h = absurd (omega (arith, ints))
quotient_falls x (negsuc b) d z h = absurd (omega (arith, ints))
quotient_falls x (pos (suc b)) (pos zero) z h = absurd (omega (arith, ints))
quotient_falls x (pos (suc b)) (negsuc d) z h = absurd (omega (arith, ints))
quotient_falls x (pos (suc b)) (pos (suc d)) z h = let q = div-le_right x (suc b) (suc d) (omega arith) (omega (arith, ints)) in omega (arith, ints)

quotient_rises_below : (x : ℕ) (b d : ℤ) → pos 1 ≤ℤ b → b ≤ℤ d → quotient (negsuc x) b ≤ℤ quotient (negsuc x) d
quotient_rises_below x (pos zero) d z h = absurd (omega (arith, ints))
quotient_rises_below x (negsuc b) d z h = absurd (omega (arith, ints))
quotient_rises_below x (pos (suc b)) (pos zero) z h = absurd (omega (arith, ints))
quotient_rises_below x (pos (suc b)) (negsuc d) z h = absurd (omega (arith, ints))
quotient_rises_below x (pos (suc b)) (pos (suc d)) z h = let q = div-le_right x (suc b) (suc d) (omega arith) (omega (arith, ints)) in omega (arith, ints)

pub quotient_between_right : (x b m k : ℤ) → pos 1 ≤ℤ m → m ≤ℤ b → b ≤ℤ k → Between (quotient x m) (quotient x b) (quotient x k)
quotient_between_right (pos x) b m k z p q = between_falling (quotient (pos x) m) (quotient (pos x) b) (quotient (pos x) k) (quotient_falls x b k (omega (arith, ints)) q) (quotient_falls x m b z p)
quotient_between_right (negsuc x) b m k z p q =
    between_rising (quotient (negsuc x) m) (quotient (negsuc x) b) (quotient (negsuc x) k)
    (quotient_rises_below x m b z p) (quotient_rises_below x b k (omega (arith, ints)) q)

-- ---- remainders

pub remainder_least : (a b : ℤ) → pos 1 ≤ℤ b → pos 0 ≤ℤ remainder a b
remainder_least a b h = let d = division a b h in d.1

pub remainder_below : (a b : ℤ) → pos 1 ≤ℤ b → remainder a b <ℤ b
remainder_below a b h = let d = division a b h in d.2

pub remainder_at_most : (a b : ℤ) → pos 1 ≤ℤ b → pos 0 ≤ℤ a → remainder a b ≤ℤ a
remainder_at_most a (pos zero) h n = absurd (omega (arith, ints))
remainder_at_most a (negsuc b) h n = absurd (omega (arith, ints))
remainder_at_most (negsuc a) (pos (suc b)) h n = absurd (omega (arith, ints))
remainder_at_most (pos a) (pos (suc b)) h n = let u = mod-le a (suc b) in omega (arith, ints)
