-- Runs to where an answer can be put off.
use Rattle.std.proofs.Common.{◌≡◌, ◌⊎◌, ℕ, Bool, true, false, true≢false, not, ◌||◌, refl, sym, ◌∙◌, inl, inr}
use Rattle.std.proofs.lemmas.Bool.{or_parts}
use Rattle.pb_text_meaning.specs.Syntax.{Name, same_name}
use Rattle.pb_model_meaning.specs.Syntax.{StepSet, Formula, Model}
use Rattle.pb_model_meaning.specs.Steps.{State, is_state, state_count}
use Rattle.pb_model_meaning.specs.Positive.{IsPositive}
use Rattle.pb_model_meaning.specs.Satisfaction.{Valuation, satisfying}
use Rattle.pb_model_runs.specs.Runs.{last_state}
use Rattle.pb_model_runs.specs.Always.{IsWithout}
use Rattle.pb_model_runs.specs.Inevitably.{inevitably_by, IsPutOff}
use Rattle.pb_model_runs.proofs.InevitablyLemmas.{false-is-put-off, true-is-bounded}
use Rattle.pb_model_run_laws.specs.Free.{is_free}
use Rattle.pb_model_run_laws.specs.Everywhere.{everywhere_by}
use Rattle.pb_model_run_laws.specs.Response.{FalseIsUnanswered, TrueIsAnswered}
use Rattle.pb_model_run_laws.proofs.PrecedenceLemmas.{not-false}
use Rattle.pb_model_run_laws.proofs.FreeLemmas.{not-free-is-without}
use Rattle.pb_model_run_laws.proofs.EverywhereLemmas.{bound-under, violated-somewhere, holds-everywhere}

neither : (b d : Bool) → b ≡ false → d ≡ false → (b || d) ≡ false
neither true d e h = e
neither false d e h = h

implied : (b d : Bool) → (not b || d) ≡ true → b ≡ true → d ≡ true
implied true d e h = e
implied false d e h = absurd (true≢false (sym h))

module _ (m : Model) (ρ : Valuation) (A B : StepSet) (X Y : Name) (p q : Formula) (bound_p : is_free X p ≡ false) (bound_q : is_free X q ≡ false) (bound_y : is_free Y q ≡ false) where
  abbrev answered : Formula
  answered = inevitably_by B Y q

  without-x : IsWithout m ρ X (Formula.Implies p answered)
  without-x = not-free-is-without m ρ X (Formula.Implies p answered) (neither (is_free X p) _ bound_p (bound-under (same_name Y X) (is_free X q) bound_q))

  without-y : IsWithout m ρ Y q
  without-y = not-free-is-without m ρ Y q bound_y

  inner : IsPositive (everywhere_by A X (Formula.Implies p answered)) → IsPositive answered
  inner ((a, b), (c, (d, e))) = e

  abbrev Unanswered : State → Type 0
  Unanswered t = (is_state m t ≡ false) ⊎ ((satisfying m ρ p t ≡ true) × ((n : ℕ) → IsPutOff m ρ B q t n))

  unanswered : IsPositive (everywhere_by A X (Formula.Implies p answered)) → (t : State) → (is_state m t ≡ false) ⊎ (satisfying m ρ (Formula.Implies p answered) t ≡ false) → Unanswered t
  unanswered positive t ends = by (is_state m t) refl ends
    where
      by : (b : Bool) → is_state m t ≡ b → (is_state m t ≡ false) ⊎ (satisfying m ρ (Formula.Implies p answered) t ≡ false) → Unanswered t
      by false outside ends = inl outside
      by true within (inl outside) = inl outside
      by true within (inr fails) =
          let parts = or_parts (not (satisfying m ρ p t)) (satisfying m ρ answered t) fails in
          inr (not-false (satisfying m ρ p t) parts.0, λ n. false-is-put-off m ρ B Y q t without-y (inner positive) within parts.1 n)

pub false-is-unanswered : FalseIsUnanswered
false-is-unanswered m ρ A B X Y p q s bound_p bound_q bound_y positive within e =
    let v = violated-somewhere m ρ A X (Formula.Implies p (inevitably_by B Y q)) (without-x m ρ A B X Y p q bound_p bound_q bound_y) s within e in
    record { path = v.path; run = v.run; by = v.by; ends = unanswered m ρ A B X Y p q bound_p bound_q bound_y positive (last_state s v.path) v.ends }

pub true-is-answered : TrueIsAnswered
true-is-answered m ρ A B X Y p q s bound_p bound_q bound_y positive within e v =
    let held = holds-everywhere m ρ A X (Formula.Implies p (inevitably_by B Y q)) (without-x m ρ A B X Y p q bound_p bound_q bound_y) positive s within e v.path v.run v.by in
    let t = last_state s v.path in
    elim v.ends [
      | inl outside ↦ true≢false (sym held.0 ∙ outside)
      | inr asked ↦
          let sure = implied (satisfying m ρ p t) (satisfying m ρ (inevitably_by B Y q) t) held.1 asked.0 in
          true-is-bounded m ρ B Y q t (without-y m ρ A B X Y p q bound_p bound_q bound_y) sure (asked.1 (state_count m))
    ]
