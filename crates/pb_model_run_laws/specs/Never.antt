-- What `nu X . [B] false && [A] X` says of runs: behind none by the steps of A a step of B can be
-- taken. With all steps for A it says that no step of B is ever taken, and with those that aren't
-- of a it is precedence of steps: none of B before one of a.
use Rattle.std.specs.Prelude.{◌≡◌, ◌⊎◌, true, false, List}
use Rattle.pb_text_meaning.specs.Syntax.{Name}
use Rattle.pb_model_meaning.specs.Syntax.{StepSet, Formula, Model}
use Rattle.pb_model_meaning.specs.Steps.{State, has_step, is_state}
use Rattle.pb_model_meaning.specs.Satisfaction.{Valuation, satisfying}
use Rattle.pb_model_runs.specs.Runs.{Move, IsMove, IsRun, last_state}
use Rattle.pb_model_runs.specs.Always.{always_by, AreBy}

abbrev pub never_by : StepSet → StepSet → Name → Formula
never_by A B X = always_by A X (Formula.Box B (Formula.Truth false))

-- a step of the set leads on from the state
abbrev pub CanTake : Model → StepSet → State → Type 0
CanTake m B s = (x : Move) × IsMove m s x × (has_step B x.name ≡ true)

-- a run by the steps of A to a state outside the ranges, or where a step of B can be taken
pub record IsTaken (m : Model) (A B : StepSet) (s : State) : Type 0 where
  pub path : List Move
  pub run : IsRun m s path
  pub by : AreBy A path
  pub ends : (is_state m (last_state s path) ≡ false) ⊎ CanTake m B (last_state s path)

-- where it is false, such a run shows it
abbrev pub FalseNeverHasRun : Type 0
FalseNeverHasRun =
    (m : Model) (ρ : Valuation) (A B : StepSet) (X : Name) (s : State) →
    satisfying m ρ (never_by A B X) s ≡ false → IsTaken m A B s

-- where it is true, there is none
abbrev pub TrueNeverHasNone : Type 0
TrueNeverHasNone =
    (m : Model) (ρ : Valuation) (A B : StepSet) (X : Name) (s : State) →
    is_state m s ≡ true → satisfying m ρ (never_by A B X) s ≡ true → ¬ IsTaken m A B s
