-- Each step of B leads on to an earlier set of the least fixpoint, unless one of A comes first.
use Rattle.std.proofs.Common.{◌≡◌, ◌⊎◌, ℕ, zero, suc, ◌+◌, ◌≤◌, arith, Bool, true, false, true≢false, ◌&&◌, refl, sym, ap, ◌∙◌, inl, inr}
use Rattle.std.specs.List.{list_all}
use Rattle.std.proofs.lemmas.Bool.{and_parts}
use Rattle.pb_fixpoint.specs.declared.Sign.TheVariants.{Mu, Nu}
use Rattle.pb_fixpoint.specs.Solution.{iterate, start}
use Rattle.pb_text_meaning.specs.Syntax.{Name, same_name}
use Rattle.pb_model_meaning.specs.Syntax.{StepSet, Formula, Model}
use Rattle.pb_model_meaning.specs.Steps.{State, has_step, is_state, state_count, successors}
use Rattle.pb_model_meaning.specs.Positive.{IsPositive}
use Rattle.pb_model_meaning.specs.Satisfaction.{States, Valuation, holds_at, satisfying, with_set}
use Rattle.pb_model_meaning.proofs.Fixpoints.{fixpoints_are_extreme}
use Rattle.pb_model_runs.specs.Runs.{Move, IsMove}
use Rattle.pb_model_runs.proofs.Elements.{each-holds}
use Rattle.pb_model_runs.proofs.AlwaysLemmas.{chosen-set, led-successor, within-set}
use Rattle.pb_model_run_laws.specs.InfiniteRuns.{state_at, IsInfiniteRun}
use Rattle.pb_model_run_laws.specs.InfinitelyOften.{IsTakenInfinitelyOften}
use Rattle.pb_model_run_laws.specs.Reactivity.{reactivity_by, TrueIsReactive}
use Rattle.pb_model_run_laws.proofs.InfinitelyOftenLemmas.{other-set, or-second}
use Rattle.pb_model_run_laws.proofs.PersistenceLemmas.{gap}

module _ (m : Model) (ρ : Valuation) (A B C : StepSet) (X Y Z : Name) (yx : same_name Y X ≡ false) (zx : same_name Z X ≡ false) (zy : same_name Z Y ≡ false) where
  abbrev body : Formula
  body = Formula.And (Formula.Box A (Formula.Named X)) (Formula.And (Formula.Box B (Formula.Named Y)) (Formula.Box C (Formula.Named Z)))

  positive : IsPositive (reactivity_by A B C X Y Z)
  positive = (λ e f. (λ k. refl, (λ k. refl, λ k. refl)), (λ e. (λ k. refl, (λ k. refl, λ k. refl)), ((λ k. refl, (λ k. refl, λ k. refl)), (tt, (tt, tt)))))

  inner-positive : IsPositive (Formula.Fixpoint Nu Z body)
  inner-positive = ((λ k. refl, (λ k. refl, λ k. refl)), (tt, (tt, tt)))

  abbrev T : States
  T = satisfying m ρ (reactivity_by A B C X Y Z)

  -- the inner greatest fixpoint, where X is the outer one and Y is S
  abbrev inner : States → States
  inner S = satisfying m (with_set (with_set ρ X T) Y S) (Formula.Fixpoint Nu Z body)

  abbrev holds : ℕ → States
  holds n = iterate n inner (start Mu)

  unfolded : (s : State) → is_state m s ≡ true → T s ≡ true → holds (state_count m) s ≡ true
  unfolded s within e = (fixpoints_are_extreme m ρ Nu X (Formula.Fixpoint Mu Y (Formula.Fixpoint Nu Z body)) positive).fixpoint s within ∙ e

  abbrev all_in : StepSet → States → State → Bool
  all_in D S s = list_all (holds_at m (Formula.Named X) S) (successors m D s)

  inner-said : (S : States) (s : State) → is_state m s ≡ true → (all_in A T s && (all_in B S s && all_in C (inner S) s)) ≡ inner S s
  inner-said S s e =
      let σ : Valuation = with_set (with_set ρ X T) Y S in
      let τ : Valuation = with_set σ Z (inner S) in
      let first = other-set (same_name Z X) (inner S) (σ X) zx ∙ other-set (same_name Y X) S (with_set ρ X T X) yx ∙ chosen-set ρ X T in
      let second = other-set (same_name Z Y) (inner S) (σ Y) zy ∙ chosen-set (with_set ρ X T) Y S in
      let third = chosen-set σ Z (inner S) in
      sym
      (ap (λ (U : States). all_in A U s && (all_in B (τ Y) s && all_in C (τ Z) s)) first
      ∙ ap (λ (U : States). all_in A T s && (all_in B U s && all_in C (τ Z) s)) second
      ∙ ap (λ (U : States). all_in A T s && (all_in B S s && all_in C U s)) third)
      ∙ (fixpoints_are_extreme m σ Nu Z body inner-positive).fixpoint s e

  there : (D : StepSet) (S : States) (s : State) (x : Move) → all_in D S s ≡ true → IsMove m s x → has_step D x.name ≡ true → (is_state m x.state ≡ true) × (S x.state ≡ true)
  there D S s x all move named =
      within-set m ρ D X (Formula.Truth true) (λ U. refl) S x.state (each-holds (holds_at m (Formula.Named X) S) (successors m D s) x.state all (led-successor m D s x move named))

  module _ (s : State) (run : ℕ → Move) (h : IsInfiniteRun m (StepSet.Union A (StepSet.Union B C)) s run) where
    -- the state after i moves is one of the model's, and in the set
    abbrev In : States → ℕ → Type 0
    In S i = (is_state m (state_at s run i) ≡ true) × (S (state_at s run i) ≡ true)

    -- from the i-th move on, a step of A that leads to a state of the outer fixpoint
    record Found (i : ℕ) : Type 0 where
      place : ℕ
      far : i ≤ place
      named : has_step A (run place).name ≡ true
      next : In T (suc place)

    -- or, the way being by no step of A, a step of B
    record Left (S : States) (i : ℕ) : Type 0 where
      place : ℕ
      far : i ≤ place
      next : In S (suc place)

    found-later : (i : ℕ) → Found (suc i) → Found i
    found-later i f = record { place = f.place; far = (let far = f.far in omega (arith, far)); named = f.named; next = f.next }

    left-later : (S : States) (i : ℕ) → Left S (suc i) → Left S i
    left-later S i f = record { place = f.place; far = (let far = f.far in omega (arith, far)); next = f.next }

    step-on : (S : States) (i : ℕ) → In (inner S) i → Found i ⊎ Left S i ⊎ ((has_step B (run i).name ≡ false) × In (inner S) (suc i))
    step-on S i here =
        let t = state_at s run i in
        let all = and_parts (all_in A T t) (all_in B S t && all_in C (inner S) t) (inner-said S t here.0 ∙ here.1) in
        let rest = and_parts (all_in B S t) (all_in C (inner S) t) all.1 in
        by (has_step A (run i).name) (has_step B (run i).name) refl refl all.0 rest.0 rest.1
      where
        by : (b d : Bool) → has_step A (run i).name ≡ b → has_step B (run i).name ≡ d → all_in A T (state_at s run i) ≡ true → all_in B S (state_at s run i) ≡ true
            → all_in C (inner S) (state_at s run i) ≡ true → Found i ⊎ Left S i ⊎ ((has_step B (run i).name ≡ false) × In (inner S) (suc i))
        by true d named e first second third =
            inl (record { place = i; far = omega arith; named = named; next = there A T (state_at s run i) (run i) first (h.moves i) named })
        by false true e named first second third =
            inr (inl (record { place = i; far = omega arith; next = there B S (state_at s run i) (run i) second (h.moves i) named }))
        by false false not_a not_b first second third =
            let named = or-second (has_step B (run i).name) (has_step C (run i).name) not_b (or-second (has_step A (run i).name) _ not_a (h.by i)) in
            inr (inr (not_b, there C (inner S) (state_at s run i) (run i) third (h.moves i) named))

    walk : (d i k : ℕ) → k ≡ i + d → (S : States) → In (inner S) i → has_step B (run k).name ≡ true → Found i ⊎ Left S i
    walk zero i k e S here named =
        let same : k ≡ i = omega (arith, e) in
        elim (step-on S i here) [
          | inl found ↦ inl found
          | inr (inl left) ↦ inr left
          | inr (inr stays) ↦ absurd (true≢false (sym named ∙ ap (λ n. has_step B (run n).name) same ∙ stays.0))
        ]
    walk (suc d) i k e S here named =
        elim (step-on S i here) [
          | inl found ↦ inl found
          | inr (inl left) ↦ inr left
          | inr (inr stays) ↦ elim (walk d (suc i) k (omega (arith, e)) S stays.1 named) [ inl found ↦ inl (found-later i found) | inr left ↦ inr (left-later S i left) ]
        ]

    farther : (i j : ℕ) → i ≤ j → Found (suc j) → Found i
    farther i j e f = record { place = f.place; far = (let far = f.far in omega (arith, e, far)); named = f.named; next = f.next }

    module _ (again : IsTakenInfinitelyOften B run) where
      found : (n i : ℕ) → In (holds n) i → Found i
      found zero i here = absurd (true≢false (sym here.1))
      found (suc n) i here =
          let next = again i in
          let far = gap i next.0 next.1 in
          elim (walk far.0 i next.0 far.1 (holds n) here next.2) [
            | inl now ↦ now
            | inr left ↦ farther i left.place left.far (found n (suc left.place) left.next)
          ]

      often : is_state m s ≡ true → T s ≡ true → (n : ℕ) → Found n
      often here e zero = found (state_count m) zero (here, unfolded s here e)
      often here e (suc n) =
          let last = often here e n in
          let next = found (state_count m) (suc last.place) (last.next.0, unfolded (run last.place).state last.next.0 last.next.1) in
          let far = last.far in
          let more = next.far in
          record { place = next.place; far = omega (arith, far, more); named = next.named; next = next.next }

pub true-is-reactive : TrueIsReactive
true-is-reactive m ρ A B C X Y Z s run yx zx zy here e h again n =
    let last = often m ρ A B C X Y Z yx zx zy s run h again here e n in
    (last.place, last.far, last.named)
