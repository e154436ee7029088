-- Runs and the greatest fixpoint of q, or p and all successors.
use Rattle.std.proofs.Common.{◌≡◌, ◌⊎◌, ℕ, zero, suc, Bool, true, false, true≢false, ◌&&◌, ◌||◌, if◌then◌else◌, List, [], ◌∷◌, refl, sym, ap, ◌∙◌, subst, inl, inr}
use Rattle.std.specs.List.{list_all}
use Rattle.std.proofs.lemmas.Bool.{and_parts, or_parts}
use Rattle.pb_fixpoint.specs.declared.Sign.TheVariants.{Nu}
use Rattle.pb_fixpoint.specs.Solution.{iterate, start}
use Rattle.pb_text_meaning.specs.Syntax.{Name}
use Rattle.pb_model_meaning.specs.Syntax.{StepSet, Formula, Model}
use Rattle.pb_model_meaning.specs.Steps.{State, has_step, is_state, state_count, successors}
use Rattle.pb_model_meaning.specs.Positive.{IsPositive}
use Rattle.pb_model_meaning.specs.Satisfaction.{States, Valuation, holds_at, satisfying, with_set}
use Rattle.pb_model_meaning.proofs.Fixpoints.{fixpoints_are_extreme}
use Rattle.pb_model_runs.specs.Runs.{Move, IsMove, IsRun, last_state}
use Rattle.pb_model_runs.specs.Always.{AreBy, IsWithout}
use Rattle.pb_model_runs.proofs.Elements.{either_true, some-fails, each-holds}
use Rattle.pb_model_runs.proofs.AlwaysLemmas.{chosen-set, successor-led, led-successor, within-set}
use Rattle.pb_model_runs.proofs.InevitablyLemmas.{either-false}
use Rattle.pb_model_run_laws.specs.Waiting.{WaitsAlong}
use Rattle.pb_model_run_laws.specs.WeakUntil.{weak_until_by, IsBroken, FalseWeakUntilHasRun, TrueWeakUntilIsUnbroken}

module _ (m : Model) (ρ : Valuation) (A : StepSet) (Y : Name) (p q : Formula) (without_p : IsWithout m ρ Y p) (without_q : IsWithout m ρ Y q) where
  abbrev body : Formula
  body = Formula.Or q (Formula.And p (Formula.Box A (Formula.Named Y)))

  abbrev g : States → States
  g S = satisfying m (with_set ρ Y S) body

  abbrev all_in : States → State → Bool
  all_in S s = list_all (holds_at m (Formula.Named Y) S) (successors m A s)

  step-said : (S : States) (s : State) → g S s ≡ (satisfying m ρ q s || (satisfying m ρ p s && all_in S s))
  step-said S s =
      ap (λ (F : States). F s || (satisfying m (with_set ρ Y S) p s && all_in (with_set ρ Y S Y) s)) (without_q S)
      ∙ ap (λ (F : States). satisfying m ρ q s || (F s && all_in (with_set ρ Y S Y) s)) (without_p S)
      ∙ ap (λ (U : States). satisfying m ρ q s || (satisfying m ρ p s && all_in U s)) (chosen-set ρ Y S)

  longer : (s : State) (x : Move) → IsMove m s x → has_step A x.name ≡ true → satisfying m ρ p s ≡ true → satisfying m ρ q s ≡ false
      → IsBroken m ρ A p q x.state → IsBroken m ρ A p q s
  longer s x move named holds fails v = record { path = x ∷ v.path; run = (move, v.run); by = (named, v.by); waits = (holds, fails, v.waits); ends = v.ends }

  -- a successor at which S fails leaves the ranges, or isn't in S
  after-failing : (S : States) (t : State) → holds_at m (Formula.Named Y) S t ≡ false → (S t ≡ false → IsBroken m ρ A p q t) → IsBroken m ρ A p q t
  after-failing S t e rest = by (is_state m t) refl e
    where
      by : (b : Bool) → is_state m t ≡ b → (if b then S t else false) ≡ false → IsBroken m ρ A p q t
      by true within e = rest e
      by false outside e = record { path = []; run = tt; by = tt; waits = tt; ends = inl outside }

  broken : (n : ℕ) (s : State) → iterate n g (start Nu) s ≡ false → IsBroken m ρ A p q s
  broken zero s e = absurd (true≢false e)
  broken (suc n) s e =
      let S = iterate n g (start Nu) in
      let parts = or_parts (satisfying m ρ q s) (satisfying m ρ p s && all_in S s) (sym (step-said S s) ∙ e) in
      by (satisfying m ρ p s) refl parts.0 (either-false (satisfying m ρ p s) (all_in S s) parts.1) (λ (t : State) (k : iterate n g (start Nu) t ≡ false). broken n t k)
    where
      by : (b : Bool) → satisfying m ρ p s ≡ b → satisfying m ρ q s ≡ false → (satisfying m ρ p s ≡ false) ⊎ (all_in (iterate n g (start Nu)) s ≡ false)
          → ((t : State) → iterate n g (start Nu) t ≡ false → IsBroken m ρ A p q t) → IsBroken m ρ A p q s
      by false holds fails some rest = record { path = []; run = tt; by = tt; waits = tt; ends = inr (holds, fails) }
      by true holds fails (inl not_p) rest = absurd (true≢false (sym holds ∙ not_p))
      by true holds fails (inr some) rest =
          let found = some-fails (holds_at m (Formula.Named Y) (iterate n g (start Nu))) (successors m A s) some in
          let led = successor-led m A s found.0 found.1 in
          let there : IsBroken m ρ A p q found.0 = after-failing (iterate n g (start Nu)) found.0 found.2 (rest found.0) in
          longer s led.0 led.1 led.2 holds fails (subst (λ (t : State). IsBroken m ρ A p q t) (sym led.3) there)

  abbrev T : States
  T = satisfying m ρ (weak_until_by A Y p q)

  -- where q is false, p is true, and the set goes on at each successor
  holds-here : IsPositive (weak_until_by A Y p q) → (s : State) → is_state m s ≡ true → T s ≡ true → satisfying m ρ q s ≡ false
      → (satisfying m ρ p s ≡ true) × ((x : Move) → IsMove m s x → has_step A x.name ≡ true → (is_state m x.state ≡ true) × (T x.state ≡ true))
  holds-here positive s e h fails =
      elim (either_true (satisfying m ρ q s) _ (sym (step-said T s) ∙ (fixpoints_are_extreme m ρ Nu Y body positive).fixpoint s e ∙ h)) [
        | inl here ↦ absurd (true≢false (sym here ∙ fails))
        | inr later ↦
            let parts = and_parts (satisfying m ρ p s) (all_in T s) later in
            (parts.0, λ x move named. within-set m ρ A Y q without_q T x.state (each-holds (holds_at m (Formula.Named Y) T) (successors m A s) x.state parts.1 (led-successor m A s x move named)))
      ]

  unbroken : IsPositive (weak_until_by A Y p q) → (s : State) → is_state m s ≡ true → T s ≡ true → (path : List Move) → IsRun m s path → AreBy A path
      → WaitsAlong m ρ p q s path → (is_state m (last_state s path) ≡ false) ⊎ ((satisfying m ρ p (last_state s path) ≡ false) × (satisfying m ρ q (last_state s path) ≡ false)) → ⊥
  unbroken positive s e h [] run by waits (inl outside) = true≢false (sym e ∙ outside)
  unbroken positive s e h [] run by waits (inr neither) = true≢false (sym (holds-here positive s e h neither.1).0 ∙ neither.0)
  unbroken positive s e h (x ∷ path) run by waits ends =
      let next = (holds-here positive s e h waits.1).1 x run.0 by.0 in
      unbroken positive x.state next.0 next.1 path run.1 by.1 waits.2 ends

pub false-weak-until-has-run : FalseWeakUntilHasRun
false-weak-until-has-run m ρ A Y p q s without_p without_q e = broken m ρ A Y p q without_p without_q (state_count m) s e

pub true-weak-until-is-unbroken : TrueWeakUntilIsUnbroken
true-weak-until-is-unbroken m ρ A Y p q s without_p without_q positive e h v =
    unbroken m ρ A Y p q without_p without_q positive s e h v.path v.run v.by v.waits v.ends
