-- Runs and the least fixpoint of f, or some step and all successors.
use Rattle.std.proofs.Common.{◌≡◌, ◌⊎◌, ℕ, zero, suc, Bool, true, false, true≢false, ◌&&◌, ◌||◌, if◌then◌else◌, List, [], ◌∷◌, ◌++◌, length, ◌<◌, refl, sym, ap, ◌∙◌, inl, inr, arith}
use Rattle.std.specs.List.{list_any, list_all}
use Rattle.std.proofs.lemmas.Bool.{and_parts, or_parts}
use Rattle.pb_fixpoint.specs.declared.Sign.TheVariants.{Mu}
use Rattle.pb_fixpoint.specs.Solution.{iterate, start}
use Rattle.pb_text_meaning.specs.Syntax.{Name}
use Rattle.pb_model_meaning.specs.Syntax.{StepSet, Formula, Model}
use Rattle.pb_model_meaning.specs.Steps.{State, has_step, is_state, state_count, successors}
use Rattle.pb_model_meaning.specs.Positive.{IsPositive}
use Rattle.pb_model_meaning.specs.Satisfaction.{States, Valuation, holds_at, satisfying, with_set}
use Rattle.pb_model_meaning.proofs.Fixpoints.{fixpoints_are_extreme}
use Rattle.pb_model_runs.specs.Runs.{Move, IsMove, IsRun, last_state, rounds}
use Rattle.pb_model_runs.specs.Always.{AreBy, IsWithout}
use Rattle.pb_model_runs.specs.Possibly.{StaysWithin}
use Rattle.pb_model_runs.specs.Inevitably.{inevitably_by, FailsAlong, CanLeave, IsPutOff, IsPutOffForEver, FalseIsPutOff, TrueIsBounded, LassosRefute}
use Rattle.pb_model_runs.proofs.Elements.{either_true, some-fails, each-holds}
use Rattle.pb_model_runs.proofs.RunsLemmas.{Along, lasso-along, rounds-length, longer-behind}
use Rattle.pb_model_runs.proofs.AlwaysLemmas.{chosen-set, successor-led, led-successor, within-set}

pub either-false : (b d : Bool) → (b && d) ≡ false → (b ≡ false) ⊎ (d ≡ false)
either-false true d e = inr e
either-false false d e = inl refl

-- a successor is there, within the ranges or not
pub some-there : (m : Model) (t : State) → holds_at m (Formula.Truth true) (λ u. true) t ≡ true
some-there m t = by (is_state m t)
  where
    by : (b : Bool) → (if b then true else true) ≡ true
    by true = refl
    by false = refl

pub none-there : (m : Model) (ts : List State) → list_any (holds_at m (Formula.Truth true) (λ u. true)) ts ≡ false → ts ≡ []
none-there m [] e = refl
none-there m (t ∷ ts) e = absurd (true≢false (sym (some-there m t) ∙ (or_parts _ _ e).0))

pub not-none : (m : Model) (ts : List State) → list_any (holds_at m (Formula.Truth true) (λ u. true)) ts ≡ true → ts ≡ [] → ⊥
not-none m ts e none = true≢false (sym (ap (list_any (holds_at m (Formula.Truth true) (λ u. true))) (sym none) ∙ e))

module _ (m : Model) (ρ : Valuation) (A : StepSet) (Y : Name) (f : Formula) (without : IsWithout m ρ Y f) where
  abbrev body : Formula
  body = Formula.Or f (Formula.And (Formula.Diamond StepSet.All (Formula.Truth true)) (Formula.Box A (Formula.Named Y)))

  abbrev g : States → States
  g S = satisfying m (with_set ρ Y S) body

  abbrev going : State → Bool
  going s = list_any (holds_at m (Formula.Truth true) (λ u. true)) (successors m StepSet.All s)

  abbrev all_in : States → State → Bool
  all_in S s = list_all (holds_at m (Formula.Named Y) S) (successors m A s)

  step-said : (S : States) (s : State) → g S s ≡ (satisfying m ρ f s || (going s && all_in S s))
  step-said S s =
      ap (λ (F : States). F s || (going s && all_in (with_set ρ Y S Y) s)) (without S)
      ∙ ap (λ (U : States). satisfying m ρ f s || (going s && all_in U s)) (chosen-set ρ Y S)

  longer : (s : State) (n : ℕ) (x : Move) → IsMove m s x → has_step A x.name ≡ true → is_state m x.state ≡ true → satisfying m ρ f s ≡ false
      → IsPutOff m ρ A f x.state n → IsPutOff m ρ A f s (suc n)
  longer s n x move named within fails p = record {
    path = x ∷ p.path;
    run = (move, p.run);
    by = (named, p.by);
    within = (within, p.within);
    fails = (fails, p.fails);
    ends = by p.ends;
  }
    where
      by : (length p.path ≡ n) ⊎ (successors m StepSet.All (last_state x.state p.path) ≡ []) ⊎ CanLeave m A (last_state x.state p.path)
          → (suc (length p.path) ≡ suc n) ⊎ (successors m StepSet.All (last_state x.state p.path) ≡ []) ⊎ CanLeave m A (last_state x.state p.path)
      by (inl e) = inl (ap suc e)
      by (inr e) = inr e

  abbrev T : States
  T = satisfying m ρ (inevitably_by A Y f)

  -- it fails here, and either no step can be taken or a successor isn't in the set
  fails-here : IsPositive (inevitably_by A Y f) → (s : State) → is_state m s ≡ true → T s ≡ false → (satisfying m ρ f s ≡ false) × ((going s ≡ false) ⊎ (all_in T s ≡ false))
  fails-here p s e h =
      let parts = or_parts (satisfying m ρ f s) (going s && all_in T s) (sym (step-said T s) ∙ (fixpoints_are_extreme m ρ Mu Y body p).fixpoint s e ∙ h) in
      (parts.0, either-false (going s) (all_in T s) parts.1)

  -- at a successor that isn't in the set
  at-failing : (s : State) (n : ℕ) (x : Move) → IsMove m s x → has_step A x.name ≡ true → satisfying m ρ f s ≡ false → holds_at m (Formula.Named Y) T x.state ≡ false
      → (is_state m x.state ≡ true → T x.state ≡ false → IsPutOff m ρ A f x.state n) → IsPutOff m ρ A f s (suc n)
  at-failing s n x move named fails e rest = by (is_state m x.state) refl e
    where
      by : (b : Bool) → is_state m x.state ≡ b → (if b then T x.state else false) ≡ false → IsPutOff m ρ A f s (suc n)
      by true within e = longer s n x move named within fails (rest within e)
      by false outside e = record { path = []; run = tt; by = tt; within = tt; fails = fails; ends = inr (inr (x, move, named, outside)) }

  put-off : IsPositive (inevitably_by A Y f) → (n : ℕ) (s : State) → is_state m s ≡ true → T s ≡ false → IsPutOff m ρ A f s n
  put-off p zero s e h = record { path = []; run = tt; by = tt; within = tt; fails = (fails-here p s e h).0; ends = inl refl }
  put-off p (suc n) s e h =
      let here = fails-here p s e h in
      elim here.1 [
        | inl stuck ↦ record { path = []; run = tt; by = tt; within = tt; fails = here.0; ends = inr (inl (none-there m (successors m StepSet.All s) stuck)) }
        | inr some ↦
            let found = some-fails (holds_at m (Formula.Named Y) T) (successors m A s) some in
            let led = successor-led m A s found.0 found.1 in
            at-failing s n led.0 led.1 led.2 here.0 (ap (holds_at m (Formula.Named Y) T) led.3 ∙ found.2) (λ within fails. put-off p n led.0.state within fails)
      ]

  abbrev holds : ℕ → States
  holds n = iterate n g (start Mu)

  bounded : (n : ℕ) (s : State) → holds n s ≡ true → (path : List Move) → IsRun m s path → AreBy A path → StaysWithin m path → FailsAlong m ρ f s path
      → (length path ≡ n) ⊎ (successors m StepSet.All (last_state s path) ≡ []) ⊎ CanLeave m A (last_state s path) → ⊥
  bounded zero s e path run by within fails ends = true≢false (sym e)
  bounded (suc n) s e [] run by within fails ends =
      elim (either_true (satisfying m ρ f s) _ (sym (step-said (holds n) s) ∙ e)) [
        | inl here ↦ true≢false (sym here ∙ fails)
        | inr later ↦ let parts = and_parts (going s) (all_in (holds n) s) later in at-end ends parts.0 parts.1
      ]
    where
      at-end : (zero ≡ suc n) ⊎ (successors m StepSet.All s ≡ []) ⊎ CanLeave m A s → going s ≡ true → all_in (holds n) s ≡ true → ⊥
      at-end (inl none) there all = omega (arith, none)
      at-end (inr (inl stuck)) there all = not-none m (successors m StepSet.All s) there stuck
      at-end (inr (inr leaves)) there all =
          let x = leaves.0 in
          let held = each-holds (holds_at m (Formula.Named Y) (holds n)) (successors m A s) x.state all (led-successor m A s x leaves.1 leaves.2) in
          true≢false (sym (within-set m ρ A Y f without (holds n) x.state held).0 ∙ leaves.3)
  bounded (suc n) s e (x ∷ path) run by within fails ends =
      elim (either_true (satisfying m ρ f s) _ (sym (step-said (holds n) s) ∙ e)) [
        | inl here ↦ true≢false (sym here ∙ fails.0)
        | inr later ↦
            let parts = and_parts (going s) (all_in (holds n) s) later in
            let held = each-holds (holds_at m (Formula.Named Y) (holds n)) (successors m A s) x.state parts.1 (led-successor m A s x run.0 by.0) in
            bounded n x.state (within-set m ρ A Y f without (holds n) x.state held).1 path run.1 by.1 within.1 fails.1 (shorter ends)
      ]
    where
      shorter : (suc (length path) ≡ suc n) ⊎ (successors m StepSet.All (last_state x.state path) ≡ []) ⊎ CanLeave m A (last_state x.state path)
          → (length path ≡ n) ⊎ (successors m StepSet.All (last_state x.state path) ≡ []) ⊎ CanLeave m A (last_state x.state path)
      shorter (inl e) = inl (omega (arith, e))
      shorter (inr e) = inr e

  -- ---- lassos

  -- a move by which f is put off
  record PutsOff (s : State) (x : Move) : Type 0 where
    move : IsMove m s x
    by : has_step A x.name ≡ true
    within : is_state m x.state ≡ true
    fails : satisfying m ρ f s ≡ false

  gathered : (s : State) (path : List Move) → IsRun m s path → AreBy A path → StaysWithin m path → FailsAlong m ρ f s path → Along PutsOff s path
  gathered s [] run by within fails = tt
  gathered s (x ∷ path) run by within fails =
      (record { move = run.0; by = by.0; within = within.0; fails = fails.0 }, gathered x.state path run.1 by.1 within.1 fails.1)

  -- the first n moves of more
  cut : (n : ℕ) (s : State) (path : List Move) → Along PutsOff s path → n < length path → IsPutOff m ρ A f s n
  cut n s [] h e = absurd (omega (arith, e))
  cut zero s (x ∷ path) h e = record { path = []; run = tt; by = tt; within = tt; fails = h.0.fails; ends = inl refl }
  cut (suc n) s (x ∷ path) h e = longer s n x h.0.move h.0.by h.0.within h.0.fails (cut n x.state path h.1 (omega (arith, e)))

  pub for-ever : (s : State) → IsPutOffForEver m ρ A f s → (n : ℕ) → IsPutOff m ρ A f s n
  for-ever s h n =
      let path = h.stem ++ rounds (suc n) h.loop in
      let all = gathered s (h.stem ++ h.loop) h.lasso.run h.by h.within h.fails in
      let long = rounds-length h.loop h.goes_on (suc n) in
      let more = longer-behind h.stem (rounds (suc n) h.loop) in
      cut n s path (lasso-along PutsOff s h.stem h.loop all h.lasso.back (suc n)) (omega (arith, long, more))

pub false-is-put-off : FalseIsPutOff
false-is-put-off m ρ A Y f s without p e h n = put-off m ρ A Y f without p n s e h

pub true-is-bounded : TrueIsBounded
true-is-bounded m ρ A Y f s without e p = bounded m ρ A Y f without (state_count m) s e p.path p.run p.by p.within p.fails p.ends

pub lassos-refute : LassosRefute
lassos-refute m ρ A Y f s without h = by (satisfying m ρ (inevitably_by A Y f) s) refl
  where
    by : (b : Bool) → satisfying m ρ (inevitably_by A Y f) s ≡ b → b ≡ false
    by false e = refl
    by true e = absurd (true-is-bounded m ρ A Y f s without e (for-ever m ρ A Y f without s h (state_count m)))
