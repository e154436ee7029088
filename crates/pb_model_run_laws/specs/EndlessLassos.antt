-- A lasso is a run without an end, that stays in its loop once it is behind its stem: so a lasso
-- refutes what holds of infinite runs.
use Rattle.std.specs.Prelude.{◌≡◌, ℕ, ◌<◌, ◌≤◌, true, false, List, ◌++◌, length, Contains}
use Rattle.pb_text_meaning.specs.Syntax.{Name, same_name}
use Rattle.pb_model_meaning.specs.Syntax.{StepSet, Model}
use Rattle.pb_model_meaning.specs.Steps.{State, is_state}
use Rattle.pb_model_meaning.specs.Satisfaction.{Valuation, satisfying}
use Rattle.pb_model_runs.specs.Runs.{Move, IsLasso}
use Rattle.pb_model_runs.specs.Always.{AreBy}
use Rattle.pb_model_run_laws.specs.InfiniteRuns.{IsInfiniteRun}
use Rattle.pb_model_run_laws.specs.InfinitelyOften.{infinitely_often_by}

-- an infinite run, each of whose moves behind the stem is one of the loop
pub record GoesRound (m : Model) (A : StepSet) (s : State) (stem loop : List Move) : Type 0 where
  pub run : ℕ → Move
  pub infinite : IsInfiniteRun m A s run
  pub round : (n : ℕ) → length stem ≤ n → Contains loop (run n)

-- a lasso of steps of A with a move in its loop is one
abbrev pub LassosAreInfiniteRuns : Type 0
LassosAreInfiniteRuns =
    (m : Model) (A : StepSet) (s : State) (stem loop : List Move) → IsLasso m s stem loop →
    0 < length loop → AreBy A (stem ++ loop) → GoesRound m A s stem loop

-- one of steps of A and B with none of A in its loop shows that the formula is false
abbrev pub LassosRefuteInfinitelyOften : Type 0
LassosRefuteInfinitelyOften =
    (m : Model) (ρ : Valuation) (A B : StepSet) (X Y : Name) (s : State) (stem loop : List Move) →
    same_name Y X ≡ false → is_state m s ≡ true → IsLasso m s stem loop → 0 < length loop →
    AreBy (StepSet.Union A B) (stem ++ loop) → AreBy (StepSet.Complement A) loop →
    satisfying m ρ (infinitely_often_by A B X Y) s ≡ false
