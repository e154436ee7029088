-- What p until q, `mu Y . q || (p && <true> true && [A] Y)`, says of runs: there is a bound on how
-- long the steps of A can put q off, and till then p is true in each state, and no run ends or
-- leaves the ranges.
use Rattle.std.specs.Prelude.{◌≡◌, ◌⊎◌, ℕ, ◌<◌, true, false, List, [], ◌++◌, length}
use Rattle.pb_fixpoint.specs.declared.Sign.TheVariants.{Mu}
use Rattle.pb_text_meaning.specs.Syntax.{Name}
use Rattle.pb_model_meaning.specs.Syntax.{StepSet, Formula, Model}
use Rattle.pb_model_meaning.specs.Steps.{State, is_state, state_count, successors}
use Rattle.pb_model_meaning.specs.Positive.{IsPositive}
use Rattle.pb_model_meaning.specs.Satisfaction.{Valuation, satisfying}
use Rattle.pb_model_runs.specs.Runs.{Move, IsLasso, IsRun, last_state}
use Rattle.pb_model_runs.specs.Always.{AreBy, IsWithout}
use Rattle.pb_model_runs.specs.Possibly.{StaysWithin}
use Rattle.pb_model_runs.specs.Inevitably.{inevitably_by, CanLeave}
use Rattle.pb_model_run_laws.specs.Waiting.{WaitsAlong}

abbrev pub until_by : StepSet → Name → Formula → Formula → Formula
until_by A Y p q =
    Formula.Fixpoint Mu Y
    (Formula.Or q
    (Formula.And p
    (Formula.And (Formula.Diamond StepSet.All (Formula.Truth true))
    (Formula.Box A (Formula.Named Y)))))

-- A run by the steps of A without q, and with p before its last state: of n steps, or to a state in
-- which p is false, or where no step can be taken, or one leaves the ranges.
pub record IsKeptWaiting (m : Model) (ρ : Valuation) (A : StepSet) (p q : Formula) (s : State)
    (n : ℕ) : Type 0 where
  pub path : List Move
  pub run : IsRun m s path
  pub by : AreBy A path
  pub within : StaysWithin m path
  pub waits : WaitsAlong m ρ p q s path
  pub fails : satisfying m ρ q (last_state s path) ≡ false
  pub ends :
      (length path ≡ n) ⊎ (satisfying m ρ p (last_state s path) ≡ false)
      ⊎ (successors m StepSet.All (last_state s path) ≡ []) ⊎ CanLeave m A (last_state s path)

-- where it is false, there is such a run for any number of steps
abbrev pub FalseUntilKeepsWaiting : Type 0
FalseUntilKeepsWaiting =
    (m : Model) (ρ : Valuation) (A : StepSet) (Y : Name) (p q : Formula) (s : State) →
    IsWithout m ρ Y p → IsWithout m ρ Y q → IsPositive (until_by A Y p q) → is_state m s ≡ true →
    satisfying m ρ (until_by A Y p q) s ≡ false → (n : ℕ) → IsKeptWaiting m ρ A p q s n

-- and where it is true, there is none for as many as there are states
abbrev pub TrueUntilIsBounded : Type 0
TrueUntilIsBounded =
    (m : Model) (ρ : Valuation) (A : StepSet) (Y : Name) (p q : Formula) (s : State) →
    IsWithout m ρ Y p → IsWithout m ρ Y q → satisfying m ρ (until_by A Y p q) s ≡ true →
    ¬ IsKeptWaiting m ρ A p q s (state_count m)

-- a lasso of the steps of A, within the ranges, with p and without q before its last state
pub record IsKeptWaitingForEver (m : Model) (ρ : Valuation) (A : StepSet) (p q : Formula)
    (s : State) : Type 0 where
  pub stem : List Move
  pub loop : List Move
  pub lasso : IsLasso m s stem loop
  pub goes_on : 0 < length loop
  pub by : AreBy A (stem ++ loop)
  pub within : StaysWithin m (stem ++ loop)
  pub waits : WaitsAlong m ρ p q s (stem ++ loop)

-- and so a lasso shows that it is false
abbrev pub LassosRefuteUntil : Type 0
LassosRefuteUntil =
    (m : Model) (ρ : Valuation) (A : StepSet) (Y : Name) (p q : Formula) (s : State) →
    IsWithout m ρ Y p → IsWithout m ρ Y q → IsKeptWaitingForEver m ρ A p q s →
    satisfying m ρ (until_by A Y p q) s ≡ false

-- that f is inevitable is `true` until f
abbrev pub InevitablyIsUntil : Type 0
InevitablyIsUntil =
    (m : Model) (ρ : Valuation) (A : StepSet) (Y : Name) (f : Formula) (s : State) →
    satisfying m ρ (inevitably_by A Y f) s
    ≡ satisfying m ρ (until_by A Y (Formula.Truth true) f) s
