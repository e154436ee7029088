-- Sums and products of counts that are told up to the greatest one.
use Rattle.std.proofs.Common.{◌≡◌, ◌∙◌, ℕ, zero, suc, ◌+◌, ◌*◌, ◌≤◌, min, inl, inr, sym, ap, arith}
use Rattle.std.proofs.lemmas.Bool.{cases_lt}
use Rattle.std.proofs.Math.Nat.{le-mul_of_pos_right, min-eq_left, min-eq_right, mul_assoc, mul_comm, mul-zero}
use Rattle.pb_model_sizes.specs.declared.count.TheConstants.{MAX_COUNT}
use Rattle.pb_model_sizes.specs.Counts.{capped}

large-factor : (a b : ℕ) → MAX_COUNT ≤ a → capped (MAX_COUNT * b) ≡ capped (a * b)
large-factor a zero large = ap capped (sym (mul-zero a))
large-factor a (suc b) large =
    let one : a ≤ a * suc b = le-mul_of_pos_right a (omega arith) in
    omega arith

-- a factor may be capped before
pub capped-mul : (a b : ℕ) → capped (capped a * b) ≡ capped (a * b)
capped-mul a b = elim (cases_lt a MAX_COUNT) [
  | inl small ↦ ap (λ (n : ℕ). capped (n * b)) (min-eq_left (omega arith))
  | inr large ↦ ap (λ (n : ℕ). capped (n * b)) (min-eq_right large) ∙ large-factor a b large
]

pub capped-mul_right : (a b : ℕ) → capped (a * capped b) ≡ capped (a * b)
capped-mul_right a b = ap capped (mul_comm a (capped b)) ∙ (capped-mul b a ∙ ap capped (mul_comm b a))

-- so may both
pub capped-product : (a b x y : ℕ) → x ≡ capped a → y ≡ capped b → min (x * y) MAX_COUNT ≡ capped (a * b)
capped-product a b x y is at =
    ap (λ (n : ℕ). capped (n * y)) is ∙ (ap (λ (n : ℕ). capped (capped a * n)) at ∙ (capped-mul a (capped b) ∙ capped-mul_right a b))

pub capped-sum : (a b x y : ℕ) → x ≡ capped a → y ≡ capped b → min (x + y) MAX_COUNT ≡ capped (a + b)
capped-sum a b x y is at = omega arith

-- one factor more is multiplied in, and the rest is left
pub factor-in : (p s rest q : ℕ) → q ≡ min (p * s) MAX_COUNT → capped (p * (s * rest)) ≡ capped (q * rest)
factor-in p s rest q is =
    ap capped (sym (mul_assoc p s rest)) ∙ (sym (capped-mul (p * s) rest) ∙ ap (λ (n : ℕ). capped (n * rest)) (sym is))

-- one summand more is added, and the rest is left
pub summand-in : (n e rest x q : ℕ) → x ≡ capped e → q ≡ min (n + x) MAX_COUNT → capped (n + (e + rest)) ≡ capped (q + rest)
summand-in n e rest x q is sum = omega arith

pub capped-small : (n : ℕ) → n ≤ MAX_COUNT → capped n ≡ n
capped-small n small = min-eq_left small
