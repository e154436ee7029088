-- States, multiplied out factor by factor, and the line that has their number.
use Rattle.std.proofs.Common.{◌≡◌, ◌∙◌, ℕ, ◌+◌, ◌*◌, ◌^◌, ◌<◌, ◌≤◌, if◌then◌else◌, List, [], ◌++◌, sym, ap, ap₂, arith, add-one}
use Rattle.std.specs.Prelude.{codes}
use Rattle.std.proofs.Math.Nat.{mul_assoc, mul_comm, pow-suc}
use borrow.Author.Tests.{le-leb, lt-leb}
use Rattle.pb_text_meaning.specs.Syntax.{Spec}
use Rattle.pb_protocol_tree.specs.Form.{StateVariableForm}
use Rattle.pb_model_sizes.specs.declared.states.TheConstants.{MAX_MULTIPLIED}
use Rattle.pb_model_sizes.specs.Counts.{element_sum, capped, state_product}
use Rattle.pb_model_sizes.specs.Digits.{numeral}
use Rattle.pb_model_sizes.specs.Sizes.{state_product_line}

-- one factor more of a power
pub power-in : (n s t p q : ℕ) → p ≡ n * s ^ t → q ≡ s * p → q ≡ n * s ^ (t + 1)
power-in n s t p q is made =
    made ∙ (mul_comm s p ∙ (ap (λ (m : ℕ). m * s) is ∙ (mul_assoc n (s ^ t) s ∙ ap (λ (m : ℕ). n * m) (sym (pow-suc s t) ∙ ap (λ (m : ℕ). s ^ m) (sym (add-one t))))))

-- the power of a variable, whose elements are few, is multiplied in
pub variable-in : (p v t rest size count q : ℕ) → size ≡ v → count ≡ capped t → t ≤ MAX_MULTIPLIED → q ≡ p * size ^ count → p * (v ^ t * rest) ≡ q * rest
variable-in p v t rest size count q is counted few made =
    let exact : count ≡ t = omega arith in
    sym (mul_assoc p (v ^ t) rest) ∙ ap (λ (m : ℕ). m * rest) (sym (made ∙ ap₂ (λ (a b : ℕ). p * a ^ b) is exact))

-- so are those of a group
pub group-in : (p s rest q : ℕ) → q ≡ p * s → p * (s * rest) ≡ q * rest
group-in p s rest q made = sym (mul_assoc p s rest) ∙ ap (λ (m : ℕ). m * rest) (sym made)

-- ---- the line

module _ (spec : Spec) (ys : List StateVariableForm) where
  pub many-elements : (e : ℕ) → e ≡ capped (element_sum spec ys) → MAX_MULTIPLIED < e → state_product_line spec ys ≡ []
  many-elements e is many =
      ap (λ b. if b then (codes "states " ++ (numeral (state_product spec ys) ++ codes "\n")) else []) (lt-leb (element_sum spec ys) MAX_MULTIPLIED (omega arith))

  pub few-elements : (e : ℕ) → e ≡ capped (element_sum spec ys) → e ≤ MAX_MULTIPLIED → element_sum spec ys ≤ MAX_MULTIPLIED
  few-elements e is few = omega arith

  pub some-states : (n : ℕ) → element_sum spec ys ≤ MAX_MULTIPLIED → n ≡ state_product spec ys
      → state_product_line spec ys ≡ codes "states " ++ (numeral n ++ codes "\n")
  some-states n few is =
      ap (λ b. if b then (codes "states " ++ (numeral (state_product spec ys) ++ codes "\n")) else []) (le-leb (element_sum spec ys) MAX_MULTIPLIED few)
      ∙ ap (λ (m : ℕ). codes "states " ++ (numeral m ++ codes "\n")) (sym is)
