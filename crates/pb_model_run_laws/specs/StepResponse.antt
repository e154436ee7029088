-- What response for steps, `nu X . [A] X && [C] (mu Y . <true> true && [B] Y)`, says of runs:
-- behind each step of C to which the steps of A lead there is a bound on how long steps of B can be
-- taken alone. With the steps that aren't of b for B it says: after each of C, one of b at last.
use Rattle.std.specs.Prelude.{◌≡◌, ◌⊎◌, ℕ, true, false, List}
use Rattle.pb_text_meaning.specs.Syntax.{Name}
use Rattle.pb_model_meaning.specs.Syntax.{StepSet, Formula, Model}
use Rattle.pb_model_meaning.specs.Steps.{State, has_step, is_state}
use Rattle.pb_model_meaning.specs.Satisfaction.{Valuation, satisfying}
use Rattle.pb_model_runs.specs.Runs.{Move, IsMove, IsRun, last_state}
use Rattle.pb_model_runs.specs.Always.{AreBy}
use Rattle.pb_model_run_laws.specs.AtLast.{other_at_last_by, IsAvoided}
use Rattle.pb_model_run_laws.specs.Everywhere.{everywhere_by}

abbrev pub step_response_by : StepSet → StepSet → StepSet → Name → Name → Formula
step_response_by A C B X Y = everywhere_by A X (Formula.Box C (other_at_last_by B Y))

-- a step of C leads from the state out of the ranges, or to where steps of B can be taken alone for
-- any number of steps
abbrev pub IsUnfollowed : Model → StepSet → StepSet → State → Type 0
IsUnfollowed m C B s =
    (x : Move) × IsMove m s x × (has_step C x.name ≡ true)
    × ((is_state m x.state ≡ false) ⊎ ((n : ℕ) → IsAvoided m B x.state n))

-- a run by the steps of A that leaves the ranges, or leads to before such a step
pub record LeadsToUnfollowed (m : Model) (A C B : StepSet) (s : State) : Type 0 where
  pub path : List Move
  pub run : IsRun m s path
  pub by : AreBy A path
  pub ends : (is_state m (last_state s path) ≡ false) ⊎ IsUnfollowed m C B (last_state s path)

-- where it is false, such a run shows it
abbrev pub FalseIsUnfollowed : Type 0
FalseIsUnfollowed =
    (m : Model) (ρ : Valuation) (A C B : StepSet) (X Y : Name) (s : State) →
    is_state m s ≡ true → satisfying m ρ (step_response_by A C B X Y) s ≡ false →
    LeadsToUnfollowed m A C B s

-- where it is true, there is none
abbrev pub TrueIsFollowed : Type 0
TrueIsFollowed =
    (m : Model) (ρ : Valuation) (A C B : StepSet) (X Y : Name) (s : State) →
    is_state m s ≡ true → satisfying m ρ (step_response_by A C B X Y) s ≡ true →
    ¬ LeadsToUnfollowed m A C B s
