-- What `nu X . <true> true && [A] X` says of runs: none by the steps of A leads to a deadlock, a
-- state where no step can be taken.
use Rattle.std.specs.Prelude.{◌≡◌, ◌⊎◌, true, false, List, []}
use Rattle.pb_text_meaning.specs.Syntax.{Name}
use Rattle.pb_model_meaning.specs.Syntax.{StepSet, Formula, Model}
use Rattle.pb_model_meaning.specs.Steps.{State, is_state, successors}
use Rattle.pb_model_meaning.specs.Satisfaction.{Valuation, satisfying}
use Rattle.pb_model_runs.specs.Runs.{Move, IsRun, last_state}
use Rattle.pb_model_runs.specs.Always.{always_by, AreBy}

abbrev pub no_deadlock_by : StepSet → Name → Formula
no_deadlock_by A X = always_by A X (Formula.Diamond StepSet.All (Formula.Truth true))

-- a run by the steps of A to a state outside the ranges, or where no step can be taken
pub record IsDeadlocked (m : Model) (A : StepSet) (s : State) : Type 0 where
  pub path : List Move
  pub run : IsRun m s path
  pub by : AreBy A path
  pub ends :
      (is_state m (last_state s path) ≡ false)
      ⊎ (successors m StepSet.All (last_state s path) ≡ [])

-- where it is false, such a run shows it
abbrev pub FalseHasDeadlock : Type 0
FalseHasDeadlock =
    (m : Model) (ρ : Valuation) (A : StepSet) (X : Name) (s : State) →
    satisfying m ρ (no_deadlock_by A X) s ≡ false → IsDeadlocked m A s

-- where it is true, there is none
abbrev pub TrueHasNoDeadlock : Type 0
TrueHasNoDeadlock =
    (m : Model) (ρ : Valuation) (A : StepSet) (X : Name) (s : State) →
    is_state m s ≡ true → satisfying m ρ (no_deadlock_by A X) s ≡ true → ¬ IsDeadlocked m A s
