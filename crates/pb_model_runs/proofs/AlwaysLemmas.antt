-- Runs and the greatest fixpoint of f and all successors.
use Rattle.std.proofs.Common.{◌≡◌, ◌⊎◌, ℕ, zero, suc, Bool, true, false, true≢false, ◌&&◌, if◌then◌else◌, List, [], ◌∷◌, refl, sym, ap, ◌∙◌, subst, inl, inr}
use Rattle.std.specs.Prelude.{Contains, filter}
use Rattle.std.specs.List.{list_all}
use Rattle.std.proofs.lemmas.Bool.{and_parts}
use Rattle.std.proofs.lemmas.Slice.Eq.{bytes_eq-Decides}
use Rattle.pb_base_values.specs.Carrier.{tuples}
use Rattle.pb_fixpoint.specs.declared.Sign.TheVariants.{Nu}
use Rattle.pb_fixpoint.specs.Solution.{iterate, start}
use Rattle.pb_text_meaning.specs.Syntax.{Name, same_name}
use Rattle.pb_text_meaning.specs.Formula.{carriers_of}
use Rattle.pb_model_meaning.specs.Syntax.{Step, StepSet, Formula, Model}
use Rattle.pb_model_meaning.specs.Steps.{State, data_of, has_step, is_enabled, is_state, next_state, state_count, steps_in, successors, successors_by}
use Rattle.pb_model_meaning.specs.Positive.{IsPositive}
use Rattle.pb_model_meaning.specs.Satisfaction.{States, Valuation, holds_at, satisfying, with_set}
use Rattle.pb_model_meaning.proofs.Fixpoints.{fixpoints_are_extreme}
use Rattle.pb_model_runs.specs.Runs.{Leads, Move, IsMove, IsRun, last_state}
use Rattle.pb_model_runs.specs.Always.{always_by, AreBy, IsWithout, IsViolated, FalseHasRun, TrueHoldsOnRuns, RunsRefute}
use Rattle.pb_model_runs.proofs.Elements.{unfiltered, passing, passes, some-fails, each-holds, in-some, of-some, of-mapped}
use Rattle.pb_model_runs.proofs.RunsLemmas.{steps-lead-to-successors}

-- ---- successors

-- a successor by a set of steps is where a step of the set leads
pub successor-led : (m : Model) (A : StepSet) (s t : State) → Contains (successors m A s) t → (x : Move) × IsMove m s x × (has_step A x.name ≡ true) × (x.state ≡ t)
successor-led m A s t h =
    let found = in-some (successors_by m s) (steps_in m A) t h in
    let a = found.0 in
    let named = passes (λ (b : Step). has_step A b.name) m.steps a found.1 in
    let among = unfiltered (λ (b : Step). has_step A b.name) m.steps a found.1 in
    let values = tuples (carriers_of (data_of m) a.variables) in
    let of = of-mapped (next_state m s a) (filter (is_enabled m s a) values) t found.2 in
    let move : Move = record { name = a.name; own = of.0; state = t } in
    let leads : Leads m s a of.0 t = record {
      step = among;
      values = unfiltered (is_enabled m s a) values of.0 of.1;
      enabled = passes (is_enabled m s a) values of.0 of.1;
      next = of.2;
    } in
    (move, (a, refl, leads), named, refl)

-- and where a step of the set leads is a successor
pub led-successor : (m : Model) (A : StepSet) (s : State) (x : Move) → IsMove m s x → has_step A x.name ≡ true → Contains (successors m A s) x.state
led-successor m A s x move named =
    let a = move.0 in
    let here : Contains (steps_in m A) a = passing (λ (b : Step). has_step A b.name) m.steps a move.2.step (ap (has_step A) move.1 ∙ named) in
    of-some (successors_by m s) (steps_in m A) a x.state here (steps-lead-to-successors m s a x.own x.state move.2)

-- ---- the fixpoint

pub chosen-set : (ρ : Valuation) (X : Name) (S : States) → with_set ρ X S X ≡ S
chosen-set ρ X S = by (same_name X X) ((bytes_eq-Decides X X).1 refl)
  where
    by : (b : Bool) → b ≡ true → (if b then S else ρ X) ≡ S
    by true e = refl
    by false e = absurd (true≢false (sym e))

module _ (m : Model) (ρ : Valuation) (A : StepSet) (X : Name) (f : Formula) (without : IsWithout m ρ X f) where
  abbrev body : Formula
  body = Formula.And f (Formula.Box A (Formula.Named X))

  abbrev g : States → States
  g S = satisfying m (with_set ρ X S) body

  -- f, and each successor in S
  step-said : (S : States) (s : State) → g S s ≡ (satisfying m ρ f s && list_all (holds_at m (Formula.Named X) S) (successors m A s))
  step-said S s =
      ap (λ (F : States). F s && list_all (holds_at m (Formula.Named X) (with_set ρ X S X)) (successors m A s)) (without S)
      ∙ ap (λ (U : States). satisfying m ρ f s && list_all (holds_at m (Formula.Named X) U) (successors m A s)) (chosen-set ρ X S)

  longer : (s : State) (x : Move) → IsMove m s x → has_step A x.name ≡ true → IsViolated m ρ A f x.state → IsViolated m ρ A f s
  longer s x move named v = record { path = x ∷ v.path; run = (move, v.run); by = (named, v.by); ends = v.ends }

  -- a successor at which S fails leaves the ranges, or isn't in S
  after-failing : (S : States) (t : State) → holds_at m (Formula.Named X) S t ≡ false → (S t ≡ false → IsViolated m ρ A f t) → IsViolated m ρ A f t
  after-failing S t e rest = by (is_state m t) refl e
    where
      by : (b : Bool) → is_state m t ≡ b → (if b then S t else false) ≡ false → IsViolated m ρ A f t
      by true within e = rest e
      by false outside e = record { path = []; run = tt; by = tt; ends = inl outside }

  violated : (n : ℕ) (s : State) → iterate n g (start Nu) s ≡ false → IsViolated m ρ A f s
  violated zero s e = absurd (true≢false e)
  violated (suc n) s e =
      by (satisfying m ρ f s) refl (λ (t : State) (k : iterate n g (start Nu) t ≡ false). violated n t k) (sym (step-said (iterate n g (start Nu)) s) ∙ e)
    where
      by : (b : Bool) → satisfying m ρ f s ≡ b → ((t : State) → iterate n g (start Nu) t ≡ false → IsViolated m ρ A f t)
          → (b && list_all (holds_at m (Formula.Named X) (iterate n g (start Nu))) (successors m A s)) ≡ false → IsViolated m ρ A f s
      by false here rest e = record { path = []; run = tt; by = tt; ends = inr here }
      by true here rest e =
          let found = some-fails (holds_at m (Formula.Named X) (iterate n g (start Nu))) (successors m A s) e in
          let led = successor-led m A s found.0 found.1 in
          let there : IsViolated m ρ A f found.0 = after-failing (iterate n g (start Nu)) found.0 found.2 (rest found.0) in
          longer s led.0 led.1 led.2 (subst (λ (t : State). IsViolated m ρ A f t) (sym led.3) there)

  abbrev T : States
  T = satisfying m ρ (always_by A X f)

  pub within-set : (S : States) (t : State) → holds_at m (Formula.Named X) S t ≡ true → (is_state m t ≡ true) × (S t ≡ true)
  within-set S t e = by (is_state m t) refl e
    where
      by : (b : Bool) → is_state m t ≡ b → (if b then S t else false) ≡ true → (is_state m t ≡ true) × (S t ≡ true)
      by true within e = (within, e)
      by false outside e = absurd (true≢false (sym e))

  -- f holds here, and the set goes on at each successor
  holds-here : IsPositive (always_by A X f) → (s : State) → is_state m s ≡ true → T s ≡ true
      → (satisfying m ρ f s ≡ true) × ((x : Move) → IsMove m s x → has_step A x.name ≡ true → (is_state m x.state ≡ true) × (T x.state ≡ true))
  holds-here p s e h =
      let parts = and_parts (satisfying m ρ f s) (list_all (holds_at m (Formula.Named X) T) (successors m A s))
      (sym (step-said T s) ∙ (fixpoints_are_extreme m ρ Nu X body p).fixpoint s e ∙ h) in
      (parts.0, λ x move named. within-set T x.state (each-holds (holds_at m (Formula.Named X) T) (successors m A s) x.state parts.1 (led-successor m A s x move named)))

  holds-on : IsPositive (always_by A X f) → (s : State) → is_state m s ≡ true → T s ≡ true → (path : List Move) → IsRun m s path → AreBy A path
      → (is_state m (last_state s path) ≡ true) × (satisfying m ρ f (last_state s path) ≡ true)
  holds-on p s e h [] run by = (e, (holds-here p s e h).0)
  holds-on p s e h (x ∷ path) run by =
      let next = (holds-here p s e h).1 x run.0 by.0 in
      holds-on p x.state next.0 next.1 path run.1 by.1

pub false-has-run : FalseHasRun
false-has-run m ρ A X f s without e = violated m ρ A X f without (state_count m) s e

pub true-holds-on-runs : TrueHoldsOnRuns
true-holds-on-runs m ρ A X f s without p e h path run by = holds-on m ρ A X f without p s e h path run by

pub runs-refute : RunsRefute
runs-refute m ρ A X f s without p e v = by (satisfying m ρ (always_by A X f) s) refl
  where
    ends : (is_state m (last_state s v.path) ≡ true) × (satisfying m ρ f (last_state s v.path) ≡ true)
        → (is_state m (last_state s v.path) ≡ false) ⊎ (satisfying m ρ f (last_state s v.path) ≡ false) → ⊥
    ends h (inl outside) = true≢false (sym h.0 ∙ outside)
    ends h (inr fails) = true≢false (sym h.1 ∙ fails)

    by : (b : Bool) → satisfying m ρ (always_by A X f) s ≡ b → b ≡ false
    by false h = refl
    by true h = absurd (ends (true-holds-on-runs m ρ A X f s without p e h v.path v.run v.by) v.ends)
