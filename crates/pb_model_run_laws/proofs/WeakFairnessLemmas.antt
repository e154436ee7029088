-- Where a run is fair to the process that a state is unfair to, it comes to an earlier set of the
-- least fixpoint, and there is a first.
use Rattle.std.proofs.Common.{◌≡◌, ◌⊎◌, ℕ, zero, suc, ◌+◌, arith, Bool, true, false, true≢false, ◌&&◌, ◌||◌, List, [], ◌∷◌, refl, sym, ap, ◌∙◌, inl, inr}
use Rattle.std.specs.Prelude.{Contains}
use Rattle.std.specs.List.{list_any, list_all}
use Rattle.std.proofs.lemmas.Bool.{and_parts}
use Rattle.pb_fixpoint.specs.declared.Sign.TheVariants.{Mu, Nu}
use Rattle.pb_fixpoint.specs.Solution.{iterate, start}
use Rattle.pb_text_meaning.specs.Syntax.{Name, same_name}
use Rattle.pb_model_meaning.specs.Syntax.{StepSet, Formula, Model}
use Rattle.pb_model_meaning.specs.Steps.{State, has_step, is_state, state_count, successors}
use Rattle.pb_model_meaning.specs.Positive.{IsPositive}
use Rattle.pb_model_meaning.specs.Satisfaction.{States, Valuation, holds_at, satisfying, with_set}
use Rattle.pb_model_meaning.proofs.Fixpoints.{fixpoints_are_extreme}
use Rattle.pb_model_runs.specs.Runs.{Move, IsMove}
use Rattle.pb_model_runs.proofs.Elements.{either_true, each-holds, first_of, later_of}
use Rattle.pb_model_runs.proofs.AlwaysLemmas.{chosen-set, led-successor, within-set}
use Rattle.pb_model_runs.proofs.InevitablyLemmas.{not-none}
use Rattle.pb_model_run_laws.specs.Free.{is_free}
use Rattle.pb_model_run_laws.specs.InfiniteRuns.{state_at, IsInfiniteRun}
use Rattle.pb_model_run_laws.specs.WeakFairness.{unfair_to, unfair_to_some, IsWeaklyFairTo, TrueIsFairlyAtLast}
use Rattle.pb_model_run_laws.proofs.FreeLemmas.{not-free-is-without}
use Rattle.pb_model_run_laws.proofs.InfinitelyOftenLemmas.{other-set, or-second}
use Rattle.pb_model_run_laws.proofs.PersistenceLemmas.{gap}

module _ (m : Model) (ρ : Valuation) (Y Z : Name) (p : Formula) (apart : same_name Y Z ≡ false) (bound_y : is_free Y p ≡ false) (bound_z : is_free Z p ≡ false) where
  abbrev body : StepSet → Formula
  body A =
      Formula.Or p
      (Formula.And (Formula.Diamond StepSet.All (Formula.Truth true))
      (Formula.And (Formula.Box A (Formula.Named Z))
      (Formula.And (Formula.Or (Formula.Diamond A (Formula.Truth true)) (Formula.Box StepSet.All (Formula.Named Z))) (Formula.Box StepSet.All (Formula.Named Y)))))

  -- the greatest fixpoint of a process, where Z is S
  abbrev inner : StepSet → States → States
  inner A S = satisfying m (with_set ρ Z S) (unfair_to A Y Z p)

  abbrev all_in : StepSet → States → State → Bool
  all_in A S s = list_all (holds_at m (Formula.Named Y) S) (successors m A s)

  abbrev able : StepSet → State → Bool
  able A s = list_any (holds_at m (Formula.Truth true) (λ u. true)) (successors m A s)

  inner-said : (A : StepSet) → IsPositive (unfair_to A Y Z p) → (S : States) (s : State) → is_state m s ≡ true
      → (satisfying m ρ p s || (able StepSet.All s && (all_in A S s && ((able A s || all_in StepSet.All S s) && all_in StepSet.All (inner A S) s)))) ≡ inner A S s
  inner-said A positive S s e =
      let σ : Valuation = with_set ρ Z S in
      let τ : Valuation = with_set σ Y (inner A S) in
      let same = not-free-is-without m σ Y p bound_y (inner A S) ∙ not-free-is-without m ρ Z p bound_z S in
      let outer = other-set (same_name Y Z) (inner A S) (σ Z) apart ∙ chosen-set ρ Z S in
      let own = chosen-set σ Y (inner A S) in
      sym
      (ap (λ (F : States). F s || (able StepSet.All s && (all_in A (τ Z) s && ((able A s || all_in StepSet.All (τ Z) s) && all_in StepSet.All (τ Y) s)))) same
      ∙ ap (λ (U : States). satisfying m ρ p s || (able StepSet.All s && (all_in A U s && ((able A s || all_in StepSet.All U s) && all_in StepSet.All (τ Y) s)))) outer
      ∙ ap (λ (U : States). satisfying m ρ p s || (able StepSet.All s && (all_in A S s && ((able A s || all_in StepSet.All S s) && all_in StepSet.All U s)))) own)
      ∙ (fixpoints_are_extreme m σ Nu Y (body A) positive).fixpoint s e

  there : (A : StepSet) (S : States) (s : State) (x : Move) → all_in A S s ≡ true → IsMove m s x → has_step A x.name ≡ true → (is_state m x.state ≡ true) × (S x.state ≡ true)
  there A S s x all move named =
      within-set m ρ A Y (Formula.Truth true) (λ U. refl) S x.state (each-holds (holds_at m (Formula.Named Y) S) (successors m A s) x.state all (led-successor m A s x move named))

  -- the process to which a state is unfair
  record Process (A : StepSet) (others : List StepSet) (S : States) (s : State) : Type 0 where
    steps : StepSet
    among : Contains (A ∷ others) steps
    positive : IsPositive (unfair_to steps Y Z p)
    unfair : inner steps S s ≡ true

  process : (A : StepSet) (others : List StepSet) → IsPositive (unfair_to_some A others Y Z p) → (S : States) (s : State)
      → satisfying m (with_set ρ Z S) (unfair_to_some A others Y Z p) s ≡ true → Process A others S s
  process A [] positive S s e = record { steps = A; among = first_of A []; positive = positive; unfair = e }
  process A (B ∷ others) positive S s e =
      elim (either_true (inner A S s) (satisfying m (with_set ρ Z S) (unfair_to_some B others Y Z p) s) e) [
        | inl this ↦ record { steps = A; among = first_of A (B ∷ others); positive = positive.0; unfair = this }
        | inr other ↦
            let found = process B others positive.1 S s other in
            record { steps = found.steps; among = later_of A (B ∷ others) found.steps found.among; positive = found.positive; unfair = found.unfair }
      ]

  module _ (s : State) (run : ℕ → Move) (h : IsInfiniteRun m StepSet.All s run) (never : (n : ℕ) → satisfying m ρ p (state_at s run n) ≡ false) where
    -- the state after i moves is one of the model's, and in the set
    abbrev In : States → ℕ → Type 0
    In S i = (is_state m (state_at s run i) ≡ true) × (S (state_at s run i) ≡ true)

    -- the process is able to take a step and doesn't, and stays the one
    record Stays (A : StepSet) (S : States) (i : ℕ) : Type 0 where
      other : has_step A (run i).name ≡ false
      can : able A (state_at s run i) ≡ true
      next : In (inner A S) (suc i)

    step-on : (A : StepSet) → IsPositive (unfair_to A Y Z p) → (S : States) (i : ℕ) → In (inner A S) i → In S (suc i) ⊎ Stays A S i
    step-on A positive S i here =
        let t = state_at s run i in
        let on = or-second (satisfying m ρ p t) _ (never i) (inner-said A positive S t here.0 ∙ here.1) in
        let first = and_parts (able StepSet.All t) _ on in
        let second = and_parts (all_in A S t) _ first.1 in
        let third = and_parts (able A t || all_in StepSet.All S t) (all_in StepSet.All (inner A S) t) second.1 in
        by (has_step A (run i).name) (able A t) refl refl second.0 third.0 third.1
      where
        by : (b d : Bool) → has_step A (run i).name ≡ b → able A (state_at s run i) ≡ d → all_in A S (state_at s run i) ≡ true
            → (able A (state_at s run i) || all_in StepSet.All S (state_at s run i)) ≡ true → all_in StepSet.All (inner A S) (state_at s run i) ≡ true → In S (suc i) ⊎ Stays A S i
        by true d named can own either on = inl (there A S (state_at s run i) (run i) own (h.moves i) named)
        by false false other can't own either on =
            inl (there StepSet.All S (state_at s run i) (run i) (or-second (able A (state_at s run i)) _ can't either) (h.moves i) refl)
        by false true other can own either on =
            inr (record { other = other; can = can; next = there StepSet.All (inner A S) (state_at s run i) (run i) on (h.moves i) refl })

    abbrev IsFairAt : StepSet → ℕ → Type 0
    IsFairAt A k = (has_step A (run k).name ≡ true) ⊎ (successors m A (state_at s run k) ≡ [])

    not-fair : (A : StepSet) (S : States) (i k : ℕ) → k ≡ i → Stays A S i → IsFairAt A k → ⊥
    not-fair A S i k same stays (inl named) = true≢false (sym named ∙ ap (λ n. has_step A (run n).name) same ∙ stays.other)
    not-fair A S i k same stays (inr unable) =
        not-none m (successors m A (state_at s run i)) stays.can (ap (λ n. successors m A (state_at s run n)) (sym same) ∙ unable)

    walk : (A : StepSet) → IsPositive (unfair_to A Y Z p) → (d i k : ℕ) → k ≡ i + d → (S : States) → In (inner A S) i → IsFairAt A k → (j : ℕ) × In S j
    walk A positive zero i k e S here fair =
        elim (step-on A positive S i here) [ inl left ↦ (suc i, left) | inr stays ↦ absurd (not-fair A S i k (omega (arith, e)) stays fair) ]
    walk A positive (suc d) i k e S here fair =
        elim (step-on A positive S i here) [ inl left ↦ (suc i, left) | inr stays ↦ walk A positive d (suc i) k (omega (arith, e)) S stays.next fair ]

    module _ (A : StepSet) (others : List StepSet) (positive : IsPositive (unfair_to_some A others Y Z p)) (fair : (B : StepSet) → Contains (A ∷ others) B → IsWeaklyFairTo m B s run) where
      abbrev holds : ℕ → States
      holds n = iterate n (λ S. satisfying m (with_set ρ Z S) (unfair_to_some A others Y Z p)) (start Mu)

      comes : (n i : ℕ) → In (holds n) i → ⊥
      comes zero i here = true≢false (sym here.1)
      comes (suc n) i here =
          let one = process A others positive (holds n) (state_at s run i) here.1 in
          let next = fair one.steps one.among i in
          let far = gap i next.0 next.1 in
          let left = walk one.steps one.positive far.0 i next.0 far.1 (holds n) (here.0, one.unfair) next.2 in
          comes n left.0 left.1

positive-within : (Z : Name) (f : Formula) → IsPositive (Formula.Fixpoint Mu Z f) → IsPositive f
positive-within Z f (a, b) = b

pub true-is-fairly-at-last : TrueIsFairlyAtLast
true-is-fairly-at-last m ρ A others Y Z p s run apart bound_y bound_z positive here e h fair never =
    comes m ρ Y Z p apart bound_y bound_z s run h never A others (positive-within Z (unfair_to_some A others Y Z p) positive) fair (state_count m) zero (here, e)
