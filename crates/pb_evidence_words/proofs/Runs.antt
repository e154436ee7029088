-- Where runs of lines begin.
use Rattle.std.proofs.Common.{◌≡◌, ℕ, zero, suc, ◌-◌, ◌<◌, ◌==◌, true, false, refl, sym, ◌∙◌, ap}
use Rattle.std.proofs.Common.{arith, if◌then◌else◌}
use Rattle.std.proofs.lemmas.Bool.{eq-eqb, ne_eqb}
use Rattle.pb_evidence_words.specs.Order.{run_start}

-- a line that comes from the one before goes on with its run
pub run_goes_on : (parent : ℕ → ℕ) (k : ℕ) → 0 < k → parent k ≡ k - 1
    → run_start parent k ≡ run_start parent (k - 1)
run_goes_on parent zero less is = absurd (omega arith)
run_goes_on parent (suc k) less is =
    let e : suc k - 1 ≡ k = omega arith in
    let same : (parent (suc k) == k) ≡ true = eq-eqb (parent (suc k)) k (is ∙ e) in
    ap (λ b. if b then run_start parent k else suc k) same ∙ sym (ap (run_start parent) e)

-- any other begins one
pub run_begins : (parent : ℕ → ℕ) (k : ℕ) → 0 < k → (parent k ≡ k - 1 → ⊥)
    → run_start parent k ≡ k
run_begins parent zero less other = absurd (omega arith)
run_begins parent (suc k) less other =
    let e : suc k - 1 ≡ k = omega arith in
    let apart : (parent (suc k) == k) ≡ false = ne_eqb (parent (suc k)) k (λ is. other (is ∙ sym e)) in
    ap (λ b. if b then run_start parent k else suc k) apart

-- lines with the same parents have the same runs
pub same_runs : (p q : ℕ → ℕ) (n : ℕ) → ((k : ℕ) → k < n → p k ≡ q k) → (k : ℕ) → k < n
    → run_start p k ≡ run_start q k
same_runs p q n same zero less = refl
same_runs p q n same (suc k) less =
    let before = same_runs p q n same k (omega arith) in
    ap (λ x. if x == k then run_start p k else suc k) (same (suc k) less)
    ∙ ap (λ s. if q (suc k) == k then s else suc k) before
