-- Counterexamples of a infinitely often, `nu X . mu Y . <true> true && [A] X && [B] Y`: a run by
-- the steps of A and of B that at last goes round by those of B, that ends, or that can leave the
-- ranges. There is no other kind (Clarke, Grumberg and Peled 1999).
use Rattle.std.specs.Prelude.{◌≡◌, ◌⊎◌, ◌<◌, true, false, List, ◌++◌, length}
use Rattle.pb_text_meaning.specs.Syntax.{Name, same_name}
use Rattle.pb_model_meaning.specs.Syntax.{StepSet, Model}
use Rattle.pb_model_meaning.specs.Steps.{State, is_state}
use Rattle.pb_model_meaning.specs.Satisfaction.{Valuation, satisfying}
use Rattle.pb_model_runs.specs.Runs.{Move, IsLasso, IsRun, last_state}
use Rattle.pb_model_runs.specs.Always.{AreBy}
use Rattle.pb_model_runs.specs.Possibly.{StaysWithin}
use Rattle.pb_model_run_laws.specs.InfinitelyOften.{infinitely_often_by}
use Rattle.pb_model_run_laws.specs.Counterexamples.{IsStopped, IsAvoidedToEnd}

-- where it is true, each run by the steps of A and of B stays within the ranges, and goes on
abbrev pub TrueNeverEnds : Type 0
TrueNeverEnds =
    (m : Model) (ρ : Valuation) (A B : StepSet) (X Y : Name) (s : State) (path : List Move) →
    same_name Y X ≡ false → is_state m s ≡ true →
    satisfying m ρ (infinitely_often_by A B X Y) s ≡ true →
    IsRun m s path → AreBy (StepSet.Union A B) path →
    (is_state m (last_state s path) ≡ true)
    × ¬ IsStopped m (StepSet.Union A B) (last_state s path)

-- a lasso of steps of A and of B, within the ranges, with those of B in its loop
pub record IsLeftForEver (m : Model) (A B : StepSet) (s : State) : Type 0 where
  pub stem : List Move
  pub loop : List Move
  pub lasso : IsLasso m s stem loop
  pub goes_on : 0 < length loop
  pub by : AreBy (StepSet.Union A B) (stem ++ loop)
  pub again : AreBy B loop
  pub within : StaysWithin m (stem ++ loop)

-- the steps of A aren't taken any more: on a lasso, or since the run ends
abbrev pub IsGivenUp : Model → StepSet → StepSet → State → Type 0
IsGivenUp m A B s = IsLeftForEver m A B s ⊎ IsAvoidedToEnd m (StepSet.Union A B) s

-- where it is false, such a run shows it
abbrev pub FalseIsGivenUp : Type 0
FalseIsGivenUp =
    (m : Model) (ρ : Valuation) (A B : StepSet) (X Y : Name) (s : State) →
    same_name Y X ≡ false → is_state m s ≡ true →
    satisfying m ρ (infinitely_often_by A B X Y) s ≡ false → IsGivenUp m A B s

-- where there is one, it is false: so a dead end refutes it, and a way out
abbrev pub GivenUpRefutes : Type 0
GivenUpRefutes =
    (m : Model) (ρ : Valuation) (A B : StepSet) (X Y : Name) (s : State) →
    same_name Y X ≡ false → is_state m s ≡ true → IsGivenUp m A B s →
    satisfying m ρ (infinitely_often_by A B X Y) s ≡ false
