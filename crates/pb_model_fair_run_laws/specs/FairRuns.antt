-- A lasso in whose loop each process takes a step or is unable to is a run without an end that is
-- weakly fair to each: so it is what "p at last, on paths that are weakly fair to each" excludes.
use Rattle.std.specs.Prelude.{◌≡◌, ℕ, false, List, Contains}
use Rattle.pb_model_meaning.specs.Syntax.{StepSet, Formula, Model}
use Rattle.pb_model_meaning.specs.Steps.{State}
use Rattle.pb_model_meaning.specs.Satisfaction.{Valuation, satisfying}
use Rattle.pb_model_runs.specs.Runs.{Move}
use Rattle.pb_model_run_laws.specs.InfiniteRuns.{state_at, IsInfiniteRun}
use Rattle.pb_model_run_laws.specs.WeakFairness.{IsWeaklyFairTo}
use Rattle.pb_model_fair_run_laws.specs.PutOffFairly.{IsPutOffFairly}

-- an infinite run that is weakly fair to each process, without p in any state
pub record GoesOnFairly (m : Model) (ρ : Valuation) (processes : List StepSet) (p : Formula)
    (s : State) : Type 0 where
  pub run : ℕ → Move
  pub infinite : IsInfiniteRun m StepSet.All s run
  pub fair : (A : StepSet) → Contains processes A → IsWeaklyFairTo m A s run
  pub never : (n : ℕ) → satisfying m ρ p (state_at s run n) ≡ false

-- such a lasso is one
abbrev pub FairLassosGoOnFairly : Type 0
FairLassosGoOnFairly =
    (m : Model) (ρ : Valuation) (processes : List StepSet) (p : Formula) (s : State) →
    IsPutOffFairly m ρ processes p s → GoesOnFairly m ρ processes p s
