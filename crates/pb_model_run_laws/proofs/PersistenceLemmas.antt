-- Each state without p leads on to an earlier set of the least fixpoint, and there is a first.
use Rattle.std.proofs.Common.{◌≡◌, ◌⊎◌, ℕ, zero, suc, ◌+◌, ◌≤◌, arith, Bool, true, false, true≢false, ◌&&◌, ◌||◌, refl, sym, ap, ◌∙◌, inl, inr}
use Rattle.std.specs.List.{list_any, list_all}
use Rattle.std.proofs.lemmas.Bool.{and_parts}
use Rattle.pb_fixpoint.specs.declared.Sign.TheVariants.{Mu, Nu}
use Rattle.pb_fixpoint.specs.Solution.{iterate, start}
use Rattle.pb_text_meaning.specs.Syntax.{Name, same_name}
use Rattle.pb_model_meaning.specs.Syntax.{StepSet, Formula, Model}
use Rattle.pb_model_meaning.specs.Steps.{State, has_step, is_state, state_count, successors}
use Rattle.pb_model_meaning.specs.Positive.{IsPositive}
use Rattle.pb_model_meaning.specs.Satisfaction.{States, Valuation, holds_at, satisfying, with_set}
use Rattle.pb_model_meaning.proofs.Fixpoints.{fixpoints_are_extreme}
use Rattle.pb_model_runs.specs.Runs.{Move, IsMove}
use Rattle.pb_model_runs.proofs.Elements.{either_true, each-holds}
use Rattle.pb_model_runs.proofs.AlwaysLemmas.{chosen-set, led-successor, within-set}
use Rattle.pb_model_run_laws.specs.Free.{is_free}
use Rattle.pb_model_run_laws.specs.InfiniteRuns.{state_at, IsInfiniteRun}
use Rattle.pb_model_run_laws.specs.Persistence.{persistence_by, FailsInfinitelyOften, TrueIsPersistent}
use Rattle.pb_model_run_laws.proofs.FreeLemmas.{not-free-is-without}
use Rattle.pb_model_run_laws.proofs.InfinitelyOftenLemmas.{other-set}

-- how far it is to what isn't behind
pub gap : (i k : ℕ) → i ≤ k → (d : ℕ) × (k ≡ i + d)
gap zero k e = (k, omega arith)
gap (suc i) zero e = absurd (omega (arith, e))
gap (suc i) (suc k) e = let rest = gap i k (omega (arith, e)) in let same = rest.1 in (rest.0, omega (arith, same))

module _ (m : Model) (ρ : Valuation) (A : StepSet) (X Y : Name) (p : Formula) (apart : same_name Y X ≡ false) (bound_x : is_free X p ≡ false) (bound_y : is_free Y p ≡ false)
    (positive : IsPositive (persistence_by A X Y p)) where
  abbrev body : Formula
  body =
      Formula.Or (Formula.And p (Formula.Box A (Formula.Named Y))) (Formula.And (Formula.Diamond StepSet.All (Formula.Truth true)) (Formula.Box A (Formula.Named X)))

  inner : IsPositive (persistence_by A X Y p) → IsPositive (Formula.Fixpoint Nu Y body)
  inner (a, b) = b

  -- the greatest fixpoint, where X is S
  abbrev within_ : States → States
  within_ S = satisfying m (with_set ρ X S) (Formula.Fixpoint Nu Y body)

  abbrev all_in : States → State → Bool
  all_in S s = list_all (holds_at m (Formula.Named X) S) (successors m A s)

  abbrev going : State → Bool
  going s = list_any (holds_at m (Formula.Truth true) (λ u. true)) (successors m StepSet.All s)

  unfolded : (S : States) (s : State) → is_state m s ≡ true → ((satisfying m ρ p s && all_in (within_ S) s) || (going s && all_in S s)) ≡ within_ S s
  unfolded S s e =
      let τ : Valuation = with_set (with_set ρ X S) Y (within_ S) in
      let same = not-free-is-without m (with_set ρ X S) Y p bound_y (within_ S) ∙ not-free-is-without m ρ X p bound_x S in
      let own = chosen-set (with_set ρ X S) Y (within_ S) in
      let outer = other-set (same_name Y X) (within_ S) (with_set ρ X S X) apart ∙ chosen-set ρ X S in
      sym
      (ap (λ (F : States). (F s && all_in (τ Y) s) || (going s && all_in (τ X) s)) same
      ∙ ap (λ (U : States). (satisfying m ρ p s && all_in U s) || (going s && all_in (τ X) s)) own
      ∙ ap (λ (U : States). (satisfying m ρ p s && all_in (within_ S) s) || (going s && all_in U s)) outer)
      ∙ (fixpoints_are_extreme m (with_set ρ X S) Nu Y body (inner positive)).fixpoint s e

  there : (S : States) (s : State) (x : Move) → all_in S s ≡ true → IsMove m s x → has_step A x.name ≡ true → (is_state m x.state ≡ true) × (S x.state ≡ true)
  there S s x all move named =
      within-set m ρ A X (Formula.Truth true) (λ U. refl) S x.state (each-holds (holds_at m (Formula.Named X) S) (successors m A s) x.state all (led-successor m A s x move named))

  abbrev holds : ℕ → States
  holds n = iterate n within_ (start Mu)

  module _ (s : State) (run : ℕ → Move) (h : IsInfiniteRun m A s run) where
    -- the state after i moves is one of the model's, and in the set
    abbrev In : States → ℕ → Type 0
    In S i = (is_state m (state_at s run i) ≡ true) × (S (state_at s run i) ≡ true)

    step-on : (S : States) (i : ℕ) → In (within_ S) i → ((satisfying m ρ p (state_at s run i) ≡ true) × In (within_ S) (suc i)) ⊎ In S (suc i)
    step-on S i here =
        let t = state_at s run i in
        elim (either_true (satisfying m ρ p t && all_in (within_ S) t) (going t && all_in S t) (unfolded S t here.0 ∙ here.1)) [
          | inl stays ↦
              let parts = and_parts (satisfying m ρ p t) (all_in (within_ S) t) stays in
              inl (parts.0, there (within_ S) t (run i) parts.1 (h.moves i) (h.by i))
          | inr leaves ↦
              let parts = and_parts (going t) (all_in S t) leaves in
              inr (there S t (run i) parts.1 (h.moves i) (h.by i))
        ]

    -- on the way to a state without p the run comes into the set of X
    walk : (d i k : ℕ) → k ≡ i + d → (S : States) → In (within_ S) i → satisfying m ρ p (state_at s run k) ≡ false → (j : ℕ) × In S j
    walk zero i k e S here fails =
        let same : k ≡ i = omega (arith, e) in
        elim (step-on S i here) [
          | inl stays ↦ absurd (true≢false (sym stays.0 ∙ ap (λ n. satisfying m ρ p (state_at s run n)) (sym same) ∙ fails))
          | inr left ↦ (suc i, left)
        ]
    walk (suc d) i k e S here fails =
        elim (step-on S i here) [
          | inl stays ↦ walk d (suc i) k (omega (arith, e)) S stays.1 fails
          | inr left ↦ (suc i, left)
        ]

    persists : (n i : ℕ) → In (holds n) i → FailsInfinitelyOften m ρ p s run → ⊥
    persists zero i here fails = true≢false (sym here.1)
    persists (suc n) i here fails =
        let next = fails i in
        let far = gap i next.0 next.1 in
        let left = walk far.0 i next.0 far.1 (holds n) here next.2 in
        persists n left.0 left.1 fails

pub true-is-persistent : TrueIsPersistent
true-is-persistent m ρ A X Y p s run apart bound_x bound_y positive here e h fails =
    persists m ρ A X Y p apart bound_x bound_y positive s run h (state_count m) zero (here, e) fails
