-- The first moves of a run without an end are a run.
use Rattle.std.proofs.Common.{◌≡◌, ◌⊎◌, ℕ, zero, suc, ◌<◌, arith, Bool, true, false, List, [], ◌∷◌, refl, sym, ap, ◌∙◌, inl, inr}
use Rattle.pb_text_meaning.specs.Syntax.{Name}
use Rattle.pb_model_meaning.specs.Syntax.{StepSet, Formula, Model}
use Rattle.pb_model_meaning.specs.Steps.{State, is_state, state_count}
use Rattle.pb_model_meaning.specs.Satisfaction.{Valuation, satisfying}
use Rattle.pb_model_runs.specs.Runs.{Move, IsMove, IsRun, last_state}
use Rattle.pb_model_runs.specs.Always.{AreBy, IsWithout}
use Rattle.pb_model_runs.proofs.AlwaysLemmas.{true-holds-on-runs}
use Rattle.pb_model_run_laws.specs.Until.{IsKeptWaiting}
use Rattle.pb_model_run_laws.specs.InfiniteRuns.{state_at, IsInfiniteRun, IsMetWithin, AlwaysOnInfiniteRuns, InevitablyOnInfiniteRuns, UntilOnInfiniteRuns}
use Rattle.pb_model_run_laws.proofs.UntilLemmas.{ended, longer, true-until-is-bounded}

-- all moves but the first
abbrev pub tail : (ℕ → Move) → ℕ → Move
tail run n = run (suc n)

pub tail-state : (s : State) (run : ℕ → Move) (n : ℕ) → state_at (run zero).state (tail run) n ≡ state_at s run (suc n)
tail-state s run zero = refl
tail-state s run (suc n) = refl

pub tail-run : (m : Model) (A : StepSet) (s : State) (run : ℕ → Move) → IsInfiniteRun m A s run → IsInfiniteRun m A (run zero).state (tail run)
tail-run m A s run h = record { moves = moves; by = λ n. h.by (suc n) }
  where
    moves : (n : ℕ) → IsMove m (state_at (run zero).state (tail run) n) (run (suc n))
    moves zero = h.moves (suc zero)
    moves (suc n) = h.moves (suc (suc n))

-- ---- the first moves

abbrev first_moves : ℕ → (ℕ → Move) → List Move
first_moves zero run = []
first_moves (suc n) run = run zero ∷ first_moves n (tail run)

first-run : (m : Model) (A : StepSet) (n : ℕ) (s : State) (run : ℕ → Move) → IsInfiniteRun m A s run → IsRun m s (first_moves n run) × AreBy A (first_moves n run)
first-run m A zero s run h = (tt, tt)
first-run m A (suc n) s run h =
    let rest = first-run m A n (run zero).state (tail run) (tail-run m A s run h) in
    both (h.moves zero) (h.by zero) rest
  where
    both : {P Q R S : Type 0} → P → Q → R × S → (P × R) × (Q × S)
    both a b (c, d) = ((a, c), (b, d))

first-end : (n : ℕ) (s : State) (run : ℕ → Move) → last_state s (first_moves n run) ≡ state_at s run n
first-end zero s run = refl
first-end (suc n) s run = first-end n (run zero).state (tail run) ∙ tail-state s run n

pub always-on-infinite-runs : AlwaysOnInfiniteRuns
always-on-infinite-runs m ρ A X f s run without positive within e h n = by (first-run m A n s run h)
  where
    by : IsRun m s (first_moves n run) × AreBy A (first_moves n run) → satisfying m ρ f (state_at s run n) ≡ true
    by (moves, named) =
        ap (satisfying m ρ f) (sym (first-end n s run)) ∙ (true-holds-on-runs m ρ A X f s without positive within e (first_moves n run) moves named).1

-- ---- until

module _ (m : Model) (ρ : Valuation) (A : StepSet) (Y : Name) (p q : Formula) (without_p : IsWithout m ρ Y p) (without_q : IsWithout m ρ Y q) where
  before-later : (s : State) (run : ℕ → Move) (k : ℕ) → satisfying m ρ p s ≡ true → ((n : ℕ) → n < k → satisfying m ρ p (state_at (run zero).state (tail run) n) ≡ true)
      → (n : ℕ) → n < suc k → satisfying m ρ p (state_at s run n) ≡ true
  before-later s run k holds before zero below = holds
  before-later s run k holds before (suc n) below =
      ap (satisfying m ρ p) (sym (tail-state s run n)) ∙ before n (omega (arith, below))

  met-later : (s : State) (run : ℕ → Move) (n : ℕ) → satisfying m ρ p s ≡ true → IsMetWithin m ρ p q (run zero).state (tail run) n → IsMetWithin m ρ p q s run (suc n)
  met-later s run n holds met = record {
    moves = suc met.moves;
    soon = (let soon = met.soon in omega (arith, soon));
    there = ap (satisfying m ρ q) (sym (tail-state s run met.moves)) ∙ met.there;
    before = before-later s run met.moves holds met.before;
  }

  -- q is met, or put off as long
  abbrev Either : State → (ℕ → Move) → ℕ → Type 0
  Either s run n = IsMetWithin m ρ p q s run n ⊎ IsKeptWaiting m ρ A p q s n

  met-here : (s : State) (run : ℕ → Move) (n : ℕ) → satisfying m ρ q s ≡ true → Either s run n
  met-here s run n e = inl (record { moves = zero; soon = omega arith; there = e; before = λ j below. absurd (omega (arith, below)) })

  -- where q is false, it goes on behind the first move, or p is false, or that leaves the ranges
  behind-first : (s : State) (run : ℕ → Move) (n : ℕ) → IsInfiniteRun m A s run → satisfying m ρ q s ≡ false → Either (run zero).state (tail run) n → Either s run (suc n)
  behind-first s run n h fails rest = by (satisfying m ρ p s) (is_state m (run zero).state) refl refl rest
    where
      by : (b d : Bool) → satisfying m ρ p s ≡ b → is_state m (run zero).state ≡ d → Either (run zero).state (tail run) n → Either s run (suc n)
      by false d not_p there rest = inr (ended m ρ A Y p q without_p without_q s (suc n) fails (inl not_p))
      by true false holds outside rest =
          inr (ended m ρ A Y p q without_p without_q s (suc n) fails (inr (inr (run zero, h.moves zero, h.by zero, outside))))
      by true true holds within (inl met) = inl (met-later s run n holds met)
      by true true holds within (inr kept) =
          inr (longer m ρ A Y p q without_p without_q s n (run zero) (record { move = h.moves zero; by = h.by zero; within = within; holds = holds; fails = fails }) kept)

  met-or-kept : (n : ℕ) (s : State) (run : ℕ → Move) → IsInfiniteRun m A s run → Either s run n
  met-or-kept zero s run h = by (satisfying m ρ q s) refl
    where
      by : (b : Bool) → satisfying m ρ q s ≡ b → Either s run zero
      by true e = met-here s run zero e
      by false e = inr (record { path = []; run = tt; by = tt; within = tt; waits = tt; fails = e; ends = inl refl })
  met-or-kept (suc n) s run h = by (satisfying m ρ q s) refl (met-or-kept n (run zero).state (tail run) (tail-run m A s run h))
    where
      by : (b : Bool) → satisfying m ρ q s ≡ b → Either (run zero).state (tail run) n → Either s run (suc n)
      by true e rest = met-here s run (suc n) e
      by false e rest = behind-first s run n h e rest

pub until-on-infinite-runs : UntilOnInfiniteRuns
until-on-infinite-runs m ρ A Y p q s run without_p without_q e h =
    elim (met-or-kept m ρ A Y p q without_p without_q (state_count m) s run h) [
      | inl met ↦ met
      | inr kept ↦ absurd (true-until-is-bounded m ρ A Y p q s without_p without_q e kept)
    ]

-- what is inevitable is `true` until it
pub inevitably-on-infinite-runs : InevitablyOnInfiniteRuns
inevitably-on-infinite-runs m ρ A Y f s run without e h =
    let met = until-on-infinite-runs m ρ A Y (Formula.Truth true) f s run (λ S. refl) without e h in
    (met.moves, met.soon, met.there)
