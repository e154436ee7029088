-- From each state of the greatest fixpoint the least one within leads to a step of the first set.
use Rattle.std.proofs.Common.{◌≡◌, ℕ, zero, suc, ◌≤◌, arith, Bool, true, false, true≢false, not, ◌&&◌, ◌||◌, if◌then◌else◌, refl, sym, ap, ◌∙◌}
use Rattle.std.specs.List.{list_any, list_all}
use Rattle.std.proofs.lemmas.Bool.{and_parts}
use Rattle.pb_fixpoint.specs.declared.Sign.TheVariants.{Mu, Nu}
use Rattle.pb_fixpoint.specs.Solution.{iterate, start}
use Rattle.pb_text_meaning.specs.Syntax.{Name, same_name}
use Rattle.pb_model_meaning.specs.Syntax.{StepSet, Formula, Model}
use Rattle.pb_model_meaning.specs.Steps.{State, has_step, is_state, state_count, successors}
use Rattle.pb_model_meaning.specs.Positive.{IsPositive}
use Rattle.pb_model_meaning.specs.Satisfaction.{States, Valuation, holds_at, satisfying, with_set}
use Rattle.pb_model_meaning.proofs.Fixpoints.{fixpoints_are_extreme}
use Rattle.pb_model_runs.specs.Runs.{Move, IsMove}
use Rattle.pb_model_runs.proofs.Elements.{each-holds}
use Rattle.pb_model_runs.proofs.AlwaysLemmas.{chosen-set, led-successor, within-set}
use Rattle.pb_model_run_laws.specs.InfiniteRuns.{state_at, IsInfiniteRun}
use Rattle.pb_model_run_laws.specs.InfinitelyOften.{infinitely_often_by, TrueIsInfinitelyOften, TakenInfinitelyOften}

pub other-set : (b : Bool) (S U : States) → b ≡ false → (if b then S else U) ≡ U
other-set true S U e = absurd (true≢false e)
other-set false S U e = refl

pub or-second : (b d : Bool) → b ≡ false → (b || d) ≡ true → d ≡ true
or-second true d e h = absurd (true≢false e)
or-second false d e h = h

either-way : (b : Bool) → (b || not b) ≡ true
either-way true = refl
either-way false = refl

module _ (m : Model) (ρ : Valuation) (A B : StepSet) (X Y : Name) (apart : same_name Y X ≡ false) where
  abbrev body : Formula
  body =
      Formula.And (Formula.Diamond StepSet.All (Formula.Truth true)) (Formula.And (Formula.Box A (Formula.Named X)) (Formula.Box B (Formula.Named Y)))

  abbrev T : States
  T = satisfying m ρ (infinitely_often_by A B X Y)

  pub positive : IsPositive (infinitely_often_by A B X Y)
  positive = (λ e. (tt, (λ k. refl, λ k. refl)), ((tt, (λ k. refl, λ k. refl)), (tt, (tt, tt))))

  abbrev holds : ℕ → States
  holds n = iterate n (λ S. satisfying m (with_set (with_set ρ X T) Y S) body) (start Mu)

  unfolded : (s : State) → is_state m s ≡ true → T s ≡ true → holds (state_count m) s ≡ true
  unfolded s within e = (fixpoints_are_extreme m ρ Nu X (Formula.Fixpoint Mu Y body) positive).fixpoint s within ∙ e

  outer : (S : States) → with_set (with_set ρ X T) Y S X ≡ T
  outer S = other-set (same_name Y X) S (with_set ρ X T X) apart ∙ chosen-set ρ X T

  abbrev all_in : StepSet → States → State → Bool
  all_in C S s = list_all (holds_at m (Formula.Named X) S) (successors m C s)

  abbrev going : State → Bool
  going s = list_any (holds_at m (Formula.Truth true) (λ u. true)) (successors m StepSet.All s)

  pub step-said : (S : States) (s : State) → satisfying m (with_set (with_set ρ X T) Y S) body s ≡ (going s && (all_in A T s && all_in B S s))
  step-said S s =
      ap (λ (U : States). going s && (all_in A U s && all_in B (with_set (with_set ρ X T) Y S Y) s)) (outer S)
      ∙ ap (λ (U : States). going s && (all_in A T s && all_in B U s)) (chosen-set (with_set ρ X T) Y S)

  pub within : (C : StepSet) (S : States) (s : State) (x : Move) → all_in C S s ≡ true → IsMove m s x → has_step C x.name ≡ true → (is_state m x.state ≡ true) × (S x.state ≡ true)
  within C S s x all move named =
      within-set m ρ C X (Formula.Truth true) (λ U. refl) S x.state (each-holds (holds_at m (Formula.Named X) S) (successors m C s) x.state all (led-successor m C s x move named))

  module _ (s : State) (run : ℕ → Move) (h : IsInfiniteRun m (StepSet.Union A B) s run) where
    -- from the i-th move on, a step of the first set that leads to a state of the greatest fixpoint
    abbrev Found : ℕ → Type 0
    Found i = (k : ℕ) × (i ≤ k) × (has_step A (run k).name ≡ true) × (is_state m (run k).state ≡ true) × (T (run k).state ≡ true)

    found : (n i : ℕ) → holds n (state_at s run i) ≡ true → Found i
    found zero i e = absurd (true≢false (sym e))
    found (suc n) i e =
        let parts = and_parts (going (state_at s run i)) (all_in A T (state_at s run i) && all_in B (holds n) (state_at s run i)) (sym (step-said (holds n) (state_at s run i)) ∙ e) in
        let sets = and_parts (all_in A T (state_at s run i)) (all_in B (holds n) (state_at s run i)) parts.1 in
        by (has_step A (run i).name) refl sets.0 sets.1 (λ (k : holds n (run i).state ≡ true). found n (suc i) k)
      where
        by : (b : Bool) → has_step A (run i).name ≡ b → all_in A T (state_at s run i) ≡ true → all_in B (holds n) (state_at s run i) ≡ true → (holds n (run i).state ≡ true → Found (suc i)) → Found i
        by true named first second rest =
            let there = within A T (state_at s run i) (run i) first (h.moves i) named in
            (i, omega arith, named, there.0, there.1)
        by false other first second rest =
            let named = or-second (has_step A (run i).name) (has_step B (run i).name) other (h.by i) in
            let later = rest (within B (holds n) (state_at s run i) (run i) second (h.moves i) named).1 in
            let far = later.1 in
            (later.0, omega (arith, far), later.2, later.3, later.4)

    often : is_state m s ≡ true → T s ≡ true → (n : ℕ) → Found n
    often here e zero = found (state_count m) zero (unfolded s here e)
    often here e (suc n) =
        let last = often here e n in
        let next = found (state_count m) (suc last.0) (unfolded (run last.0).state last.3 last.4) in
        let far = last.1 in
        let farther = next.1 in
        (next.0, omega (arith, far, farther), next.2, next.3, next.4)

pub true-is-infinitely-often : TrueIsInfinitelyOften
true-is-infinitely-often m ρ A B X Y s run apart here e h n = let last = often m ρ A B X Y apart s run h here e n in (last.0, last.1, last.2)

pub taken-infinitely-often : TakenInfinitelyOften
taken-infinitely-often m ρ A X Y s run apart here e h =
    let all : IsInfiniteRun m (StepSet.Union A (StepSet.Complement A)) s run = record { moves = h.moves; by = λ n. either-way (has_step A (run n).name) } in
    true-is-infinitely-often m ρ A (StepSet.Complement A) X Y s run apart here e all
