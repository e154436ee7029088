-- Runs without an end, and what formulas say of them: what is inevitable is met on each, within as
-- many steps as there are states.
use Rattle.std.specs.Prelude.{◌≡◌, ℕ, zero, suc, ◌<◌, ◌≤◌, true}
use Rattle.pb_text_meaning.specs.Syntax.{Name}
use Rattle.pb_model_meaning.specs.Syntax.{StepSet, Formula, Model}
use Rattle.pb_model_meaning.specs.Steps.{State, has_step, is_state, state_count}
use Rattle.pb_model_meaning.specs.Positive.{IsPositive}
use Rattle.pb_model_meaning.specs.Satisfaction.{Valuation, satisfying}
use Rattle.pb_model_runs.specs.Runs.{Move, IsMove}
use Rattle.pb_model_runs.specs.Always.{always_by, IsWithout}
use Rattle.pb_model_runs.specs.Inevitably.{inevitably_by}
use Rattle.pb_model_run_laws.specs.Until.{until_by}

-- the state after n moves from s
abbrev pub state_at : State → (ℕ → Move) → ℕ → State
state_at s run zero = s
state_at s run (suc n) = (run n).state

-- a run from s by the steps of A that never ends
pub record IsInfiniteRun (m : Model) (A : StepSet) (s : State) (run : ℕ → Move) : Type 0 where
  pub moves : (n : ℕ) → IsMove m (state_at s run n) (run n)
  pub by : (n : ℕ) → has_step A (run n).name ≡ true

-- f is true in each state
abbrev pub AlwaysOnInfiniteRuns : Type 0
AlwaysOnInfiniteRuns =
    (m : Model) (ρ : Valuation) (A : StepSet) (X : Name) (f : Formula) (s : State)
    (run : ℕ → Move) → IsWithout m ρ X f → IsPositive (always_by A X f) → is_state m s ≡ true →
    satisfying m ρ (always_by A X f) s ≡ true → IsInfiniteRun m A s run →
    (n : ℕ) → satisfying m ρ f (state_at s run n) ≡ true

-- f is true in a state that comes within as many moves as there are states
abbrev pub InevitablyOnInfiniteRuns : Type 0
InevitablyOnInfiniteRuns =
    (m : Model) (ρ : Valuation) (A : StepSet) (Y : Name) (f : Formula) (s : State)
    (run : ℕ → Move) → IsWithout m ρ Y f → satisfying m ρ (inevitably_by A Y f) s ≡ true →
    IsInfiniteRun m A s run →
    (n : ℕ) × (n ≤ state_count m) × (satisfying m ρ f (state_at s run n) ≡ true)

-- q is true after at most so many moves, and p in all states before
pub record IsMetWithin (m : Model) (ρ : Valuation) (p q : Formula) (s : State) (run : ℕ → Move)
    (bound : ℕ) : Type 0 where
  pub moves : ℕ
  pub soon : moves ≤ bound
  pub there : satisfying m ρ q (state_at s run moves) ≡ true
  pub before : (n : ℕ) → n < moves → satisfying m ρ p (state_at s run n) ≡ true

-- on each such run where p until q is true
abbrev pub UntilOnInfiniteRuns : Type 0
UntilOnInfiniteRuns =
    (m : Model) (ρ : Valuation) (A : StepSet) (Y : Name) (p q : Formula) (s : State)
    (run : ℕ → Move) → IsWithout m ρ Y p → IsWithout m ρ Y q →
    satisfying m ρ (until_by A Y p q) s ≡ true → IsInfiniteRun m A s run →
    IsMetWithin m ρ p q s run (state_count m)
