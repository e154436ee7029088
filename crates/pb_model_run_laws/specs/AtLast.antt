-- What `mu Y . <true> true && [A] Y` says of runs: there is a bound on how long steps of A can be
-- taken alone, and no run by them ends or leaves the ranges. With the steps that aren't of a for A
-- it says that one of a is taken at last.
use Rattle.std.specs.Prelude.{◌≡◌, ◌⊎◌, ℕ, true, false, List, [], length}
use Rattle.pb_fixpoint.specs.declared.Sign.TheVariants.{Mu}
use Rattle.pb_text_meaning.specs.Syntax.{Name}
use Rattle.pb_model_meaning.specs.Syntax.{StepSet, Formula, Model}
use Rattle.pb_model_meaning.specs.Steps.{State, is_state, state_count, successors}
use Rattle.pb_model_meaning.specs.Satisfaction.{Valuation, satisfying}
use Rattle.pb_model_runs.specs.Runs.{Move, IsRun, last_state}
use Rattle.pb_model_runs.specs.Always.{AreBy}
use Rattle.pb_model_runs.specs.Possibly.{StaysWithin}
use Rattle.pb_model_runs.specs.Inevitably.{CanLeave}

abbrev pub other_at_last_by : StepSet → Name → Formula
other_at_last_by A Y =
    Formula.Fixpoint Mu Y
    (Formula.And (Formula.Diamond StepSet.All (Formula.Truth true))
    (Formula.Box A (Formula.Named Y)))

-- a run by the steps of A: of n steps, or to where no step can be taken, or one leaves the ranges
pub record IsAvoided (m : Model) (A : StepSet) (s : State) (n : ℕ) : Type 0 where
  pub path : List Move
  pub run : IsRun m s path
  pub by : AreBy A path
  pub within : StaysWithin m path
  pub ends :
      (length path ≡ n) ⊎ (successors m StepSet.All (last_state s path) ≡ [])
      ⊎ CanLeave m A (last_state s path)

-- where it is false, there is such a run for any number of steps
abbrev pub FalseAtLastIsAvoided : Type 0
FalseAtLastIsAvoided =
    (m : Model) (ρ : Valuation) (A : StepSet) (Y : Name) (s : State) → is_state m s ≡ true →
    satisfying m ρ (other_at_last_by A Y) s ≡ false → (n : ℕ) → IsAvoided m A s n

-- and where it is true, there is none for as many as there are states
abbrev pub TrueAtLastIsBounded : Type 0
TrueAtLastIsBounded =
    (m : Model) (ρ : Valuation) (A : StepSet) (Y : Name) (s : State) →
    satisfying m ρ (other_at_last_by A Y) s ≡ true → ¬ IsAvoided m A s (state_count m)
