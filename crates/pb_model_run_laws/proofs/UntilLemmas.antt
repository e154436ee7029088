-- Runs and the least fixpoint of q, or p, some step and all successors.
use Rattle.std.proofs.Common.{◌≡◌, ◌⊎◌, ℕ, zero, suc, Bool, true, false, true≢false, ◌&&◌, ◌||◌, if◌then◌else◌, List, [], ◌∷◌, ◌++◌, length, ◌<◌, refl, sym, ap, ◌∙◌, inl, inr, arith}
use Rattle.std.specs.List.{list_any, list_all}
use Rattle.std.proofs.lemmas.Bool.{and_parts, or_parts}
use Rattle.pb_fixpoint.specs.declared.Sign.TheVariants.{Mu}
use Rattle.pb_fixpoint.specs.Solution.{iterate, start}
use Rattle.pb_text_meaning.specs.Syntax.{Name}
use Rattle.pb_model_meaning.specs.Syntax.{StepSet, Formula, Model}
use Rattle.pb_model_meaning.specs.Steps.{State, has_step, is_state, state_count, successors}
use Rattle.pb_model_meaning.specs.Positive.{IsPositive}
use Rattle.pb_model_meaning.specs.Satisfaction.{States, Valuation, holds_at, satisfying, with_set}
use Rattle.pb_model_meaning.proofs.Fixpoints.{fixpoints_are_extreme}
use Rattle.pb_model_runs.specs.Runs.{Move, IsMove, IsRun, last_state, rounds}
use Rattle.pb_model_runs.specs.Always.{AreBy, IsWithout}
use Rattle.pb_model_runs.specs.Possibly.{StaysWithin}
use Rattle.pb_model_runs.specs.Inevitably.{CanLeave}
use Rattle.pb_model_runs.proofs.Elements.{either_true, some-fails, each-holds}
use Rattle.pb_model_runs.proofs.RunsLemmas.{Along, lasso-along, rounds-length, longer-behind}
use Rattle.pb_model_runs.proofs.AlwaysLemmas.{chosen-set, successor-led, led-successor, within-set}
use Rattle.pb_model_runs.proofs.InevitablyLemmas.{either-false, none-there, not-none}
use Rattle.pb_model_run_laws.specs.Waiting.{WaitsAlong}
use Rattle.pb_model_run_laws.specs.Until.{until_by, IsKeptWaiting, IsKeptWaitingForEver, FalseUntilKeepsWaiting, TrueUntilIsBounded, LassosRefuteUntil, InevitablyIsUntil}

module _ (m : Model) (ρ : Valuation) (A : StepSet) (Y : Name) (p q : Formula) (without_p : IsWithout m ρ Y p) (without_q : IsWithout m ρ Y q) where
  abbrev body : Formula
  body = Formula.Or q (Formula.And p (Formula.And (Formula.Diamond StepSet.All (Formula.Truth true)) (Formula.Box A (Formula.Named Y))))

  abbrev g : States → States
  g S = satisfying m (with_set ρ Y S) body

  abbrev going : State → Bool
  going s = list_any (holds_at m (Formula.Truth true) (λ u. true)) (successors m StepSet.All s)

  abbrev all_in : States → State → Bool
  all_in S s = list_all (holds_at m (Formula.Named Y) S) (successors m A s)

  step-said : (S : States) (s : State) → g S s ≡ (satisfying m ρ q s || (satisfying m ρ p s && (going s && all_in S s)))
  step-said S s =
      ap (λ (F : States). F s || (satisfying m (with_set ρ Y S) p s && (going s && all_in (with_set ρ Y S Y) s))) (without_q S)
      ∙ ap (λ (F : States). satisfying m ρ q s || (F s && (going s && all_in (with_set ρ Y S Y) s))) (without_p S)
      ∙ ap (λ (U : States). satisfying m ρ q s || (satisfying m ρ p s && (going s && all_in U s))) (chosen-set ρ Y S)

  abbrev IsEnd : State → Type 0
  IsEnd t = (satisfying m ρ p t ≡ false) ⊎ (successors m StepSet.All t ≡ []) ⊎ CanLeave m A t

  -- a run of no steps to an end
  pub ended : (s : State) (n : ℕ) → satisfying m ρ q s ≡ false → IsEnd s → IsKeptWaiting m ρ A p q s n
  ended s n fails e = record { path = []; run = tt; by = tt; within = tt; waits = tt; fails = fails; ends = inr e }

  -- a move by which q is put off
  pub record PutsOff (s : State) (x : Move) : Type 0 where
    pub move : IsMove m s x
    pub by : has_step A x.name ≡ true
    pub within : is_state m x.state ≡ true
    pub holds : satisfying m ρ p s ≡ true
    pub fails : satisfying m ρ q s ≡ false

  pub longer : (s : State) (n : ℕ) (x : Move) → PutsOff s x → IsKeptWaiting m ρ A p q x.state n → IsKeptWaiting m ρ A p q s (suc n)
  longer s n x off k = record {
    path = x ∷ k.path;
    run = (off.move, k.run);
    by = (off.by, k.by);
    within = (off.within, k.within);
    waits = (off.holds, off.fails, k.waits);
    fails = k.fails;
    ends = by k.ends;
  }
    where
      by : (length k.path ≡ n) ⊎ IsEnd (last_state x.state k.path) → (suc (length k.path) ≡ suc n) ⊎ IsEnd (last_state x.state k.path)
      by (inl e) = inl (ap suc e)
      by (inr e) = inr e

  abbrev T : States
  T = satisfying m ρ (until_by A Y p q)

  -- q is false here, and p is, or no step can be taken, or a successor isn't in the set
  fails-here : IsPositive (until_by A Y p q) → (s : State) → is_state m s ≡ true → T s ≡ false
      → (satisfying m ρ q s ≡ false) × ((satisfying m ρ p s ≡ false) ⊎ ((going s && all_in T s) ≡ false))
  fails-here positive s e h =
      let parts = or_parts (satisfying m ρ q s) (satisfying m ρ p s && (going s && all_in T s))
      (sym (step-said T s) ∙ (fixpoints_are_extreme m ρ Mu Y body positive).fixpoint s e ∙ h) in
      (parts.0, either-false (satisfying m ρ p s) (going s && all_in T s) parts.1)

  -- at a successor that isn't in the set
  at-failing : (s : State) (n : ℕ) (x : Move) → IsMove m s x → has_step A x.name ≡ true → satisfying m ρ p s ≡ true → satisfying m ρ q s ≡ false
      → holds_at m (Formula.Named Y) T x.state ≡ false → (is_state m x.state ≡ true → T x.state ≡ false → IsKeptWaiting m ρ A p q x.state n) → IsKeptWaiting m ρ A p q s (suc n)
  at-failing s n x move named holds fails e rest = by (is_state m x.state) refl e
    where
      by : (b : Bool) → is_state m x.state ≡ b → (if b then T x.state else false) ≡ false → IsKeptWaiting m ρ A p q s (suc n)
      by true within e = longer s n x (record { move = move; by = named; within = within; holds = holds; fails = fails }) (rest within e)
      by false outside e = ended s (suc n) fails (inr (inr (x, move, named, outside)))

  kept : IsPositive (until_by A Y p q) → (n : ℕ) (s : State) → is_state m s ≡ true → T s ≡ false → IsKeptWaiting m ρ A p q s n
  kept positive zero s e h = record { path = []; run = tt; by = tt; within = tt; waits = tt; fails = (fails-here positive s e h).0; ends = inl refl }
  kept positive (suc n) s e h =
      let here = fails-here positive s e h in
      by (satisfying m ρ p s) refl here.0 here.1 (λ (t : State) (within : is_state m t ≡ true) (off : T t ≡ false). kept positive n t within off)
    where
      by : (b : Bool) → satisfying m ρ p s ≡ b → satisfying m ρ q s ≡ false → (satisfying m ρ p s ≡ false) ⊎ ((going s && all_in T s) ≡ false)
          → ((t : State) → is_state m t ≡ true → T t ≡ false → IsKeptWaiting m ρ A p q t n) → IsKeptWaiting m ρ A p q s (suc n)
      by false holds fails some rest = ended s (suc n) fails (inl holds)
      by true holds fails (inl not_p) rest = absurd (true≢false (sym holds ∙ not_p))
      by true holds fails (inr some) rest = elim (either-false (going s) (all_in T s) some) [
        | inl stuck ↦ ended s (suc n) fails (inr (inl (none-there m (successors m StepSet.All s) stuck)))
        | inr out ↦
            let found = some-fails (holds_at m (Formula.Named Y) T) (successors m A s) out in
            let led = successor-led m A s found.0 found.1 in
            at-failing s n led.0 led.1 led.2 holds fails (ap (holds_at m (Formula.Named Y) T) led.3 ∙ found.2) (rest led.0.state)
      ]

  abbrev holds : ℕ → States
  holds n = iterate n g (start Mu)

  -- where it holds after n steps and q is false, p is true, a step can be taken, and all lead to where it holds after one step less
  goes-on : (n : ℕ) (s : State) → holds (suc n) s ≡ true → satisfying m ρ q s ≡ false → (satisfying m ρ p s ≡ true) × (going s ≡ true) × (all_in (holds n) s ≡ true)
  goes-on n s e fails = elim (either_true (satisfying m ρ q s) _ (sym (step-said (holds n) s) ∙ e)) [
    | inl here ↦ absurd (true≢false (sym here ∙ fails))
    | inr later ↦
        let parts = and_parts (satisfying m ρ p s) (going s && all_in (holds n) s) later in
        let more = and_parts (going s) (all_in (holds n) s) parts.1 in
        (parts.0, more.0, more.1)
  ]

  -- so it isn't an end
  no-end : (n : ℕ) (s : State) → holds (suc n) s ≡ true → satisfying m ρ q s ≡ false → IsEnd s → ⊥
  no-end n s e fails (inl not_p) = true≢false (sym (goes-on n s e fails).0 ∙ not_p)
  no-end n s e fails (inr (inl stuck)) = not-none m (successors m StepSet.All s) (goes-on n s e fails).1 stuck
  no-end n s e fails (inr (inr leaves)) =
      let x = leaves.0 in
      let held = each-holds (holds_at m (Formula.Named Y) (holds n)) (successors m A s) x.state (goes-on n s e fails).2 (led-successor m A s x leaves.1 leaves.2) in
      true≢false (sym (within-set m ρ A Y q without_q (holds n) x.state held).0 ∙ leaves.3)

  bounded : (n : ℕ) (s : State) → holds n s ≡ true → (path : List Move) → IsRun m s path → AreBy A path → WaitsAlong m ρ p q s path
      → satisfying m ρ q (last_state s path) ≡ false → (length path ≡ n) ⊎ IsEnd (last_state s path) → ⊥
  bounded zero s e path run by waits fails ends = true≢false (sym e)
  bounded (suc n) s e [] run by waits fails (inl none) = omega (arith, none)
  bounded (suc n) s e [] run by waits fails (inr end) = no-end n s e fails end
  bounded (suc n) s e (x ∷ path) run by waits fails ends =
      let all = (goes-on n s e waits.1).2 in
      let held = each-holds (holds_at m (Formula.Named Y) (holds n)) (successors m A s) x.state all (led-successor m A s x run.0 by.0) in
      bounded n x.state (within-set m ρ A Y q without_q (holds n) x.state held).1 path run.1 by.1 waits.2 fails (shorter ends)
    where
      shorter : (suc (length path) ≡ suc n) ⊎ IsEnd (last_state x.state path) → (length path ≡ n) ⊎ IsEnd (last_state x.state path)
      shorter (inl e) = inl (omega (arith, e))
      shorter (inr e) = inr e

  -- ---- lassos

  gathered : (s : State) (path : List Move) → IsRun m s path → AreBy A path → StaysWithin m path → WaitsAlong m ρ p q s path → Along PutsOff s path
  gathered s [] run by within waits = tt
  gathered s (x ∷ path) run by within waits =
      (record { move = run.0; by = by.0; within = within.0; holds = waits.0; fails = waits.1 }, gathered x.state path run.1 by.1 within.1 waits.2)

  -- the first n moves of more
  cut : (n : ℕ) (s : State) (path : List Move) → Along PutsOff s path → n < length path → IsKeptWaiting m ρ A p q s n
  cut n s [] h e = absurd (omega (arith, e))
  cut zero s (x ∷ path) h e = record { path = []; run = tt; by = tt; within = tt; waits = tt; fails = h.0.fails; ends = inl refl }
  cut (suc n) s (x ∷ path) h e = longer s n x h.0 (cut n x.state path h.1 (omega (arith, e)))

  for-ever : (s : State) → IsKeptWaitingForEver m ρ A p q s → (n : ℕ) → IsKeptWaiting m ρ A p q s n
  for-ever s h n =
      let path = h.stem ++ rounds (suc n) h.loop in
      let all = gathered s (h.stem ++ h.loop) h.lasso.run h.by h.within h.waits in
      let long = rounds-length h.loop h.goes_on (suc n) in
      let more = longer-behind h.stem (rounds (suc n) h.loop) in
      cut n s path (lasso-along PutsOff s h.stem h.loop all h.lasso.back (suc n)) (omega (arith, long, more))

pub false-until-keeps-waiting : FalseUntilKeepsWaiting
false-until-keeps-waiting m ρ A Y p q s without_p without_q positive e h n = kept m ρ A Y p q without_p without_q positive n s e h

pub true-until-is-bounded : TrueUntilIsBounded
true-until-is-bounded m ρ A Y p q s without_p without_q e k =
    bounded m ρ A Y p q without_p without_q (state_count m) s e k.path k.run k.by k.waits k.fails k.ends

pub lassos-refute-until : LassosRefuteUntil
lassos-refute-until m ρ A Y p q s without_p without_q h = by (satisfying m ρ (until_by A Y p q) s) refl
  where
    by : (b : Bool) → satisfying m ρ (until_by A Y p q) s ≡ b → b ≡ false
    by false e = refl
    by true e = absurd (true-until-is-bounded m ρ A Y p q s without_p without_q e (for-ever m ρ A Y p q without_p without_q s h (state_count m)))

pub inevitably-is-until : InevitablyIsUntil
inevitably-is-until m ρ A Y f s = refl
