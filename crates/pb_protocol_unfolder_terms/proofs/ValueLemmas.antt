-- Whole numbers from one on.
use Rattle.std.proofs.Common.{◌≡◌, ℕ, zero, suc, ◌+◌, ◌-◌, ◌<◌, List, [], ◌∷◌, ◌++◌, map, length, refl, sym, ◌∙◌, ap, arith, ℤ, pos, negsuc, ◌+ℤ◌, ◌-ℤ◌, ◌≤ℤ◌, ◌<ℤ◌, append_assoc}
use Rattle.std.proofs.lemmas.Int.{ints}
use Rattle.pb_base_values.specs.Carrier.{numbers_from, at_least_none, interval}
use Rattle.pb_text_meaning.specs.Syntax.{Term}
use Rattle.pb_protocol_folding.specs.Folding.{number}

length-numbers : (low : ℤ) (n : ℕ) → length (numbers_from low n) ≡ n
length-numbers low zero = refl
length-numbers low (suc n) = ap suc (length-numbers (low +ℤ pos 1) n)

-- how many whole numbers there are from low to high
pub length-interval : (low high : ℤ) (n : ℕ) → pos n ≡ high -ℤ low +ℤ pos 1 → n ≡ length (interval low high)
length-interval low high n e = sym (ap (λ (z : ℤ). length (numbers_from low (at_least_none z))) (sym e) ∙ length-numbers low n)

pub length-none : (low high : ℤ) → high <ℤ low → 0 ≡ length (interval low high)
length-none low high h = sym (none (high -ℤ low +ℤ pos 1) (omega (arith, ints, h)))
  where
    none : (z : ℤ) → z ≤ℤ pos 0 → length (numbers_from low (at_least_none z)) ≡ 0
    none (pos zero) h = refl
    none (pos (suc n)) h = absurd (omega (arith, ints, h))
    none (negsuc n) h = refl

-- they are as many as there are from the first on
pub interval-counted : (low high : ℤ) (n : ℕ) → n ≡ length (interval low high) → numbers_from low n ≡ interval low high
interval-counted low high n e = ap (numbers_from low) (e ∙ length-numbers low (at_least_none (high -ℤ low +ℤ pos 1)))

next : (low : ℤ) (k n m : ℕ) → n ≡ suc m → numbers_from (low +ℤ pos k) n ≡ (low +ℤ pos k) ∷ numbers_from (low +ℤ pos (k + 1)) m
next low k n m e =
    let further : (low +ℤ pos k) +ℤ pos 1 ≡ low +ℤ pos (k + 1) = omega (arith, ints) in
    ap (numbers_from (low +ℤ pos k)) e ∙ ap (λ (z : ℤ). (low +ℤ pos k) ∷ numbers_from z m) further

-- one number further
pub numbers-next : (low : ℤ) (k count : ℕ) (before : List Term) → k < count
    → before ++ map number (numbers_from (low +ℤ pos k) (count - k)) ≡ (before ++ (number (low +ℤ pos k) ∷ [])) ++ map number (numbers_from (low +ℤ pos (k + 1)) (count - (k + 1)))
numbers-next low k count before h =
    let left : count - k ≡ suc (count - (k + 1)) = omega (arith, h) in
    ap (λ xs. before ++ map number xs) (next low k (count - k) (count - (k + 1)) left)
    ∙ sym (append_assoc before (number (low +ℤ pos k) ∷ []) (map number (numbers_from (low +ℤ pos (k + 1)) (count - (k + 1)))))
