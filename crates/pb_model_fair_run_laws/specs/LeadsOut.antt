-- Runs that can leave the ranges.
use Rattle.std.specs.Prelude.{List}
use Rattle.pb_model_meaning.specs.Syntax.{StepSet, Model}
use Rattle.pb_model_meaning.specs.Steps.{State}
use Rattle.pb_model_runs.specs.Runs.{Move, IsRun, last_state}
use Rattle.pb_model_runs.specs.Always.{AreBy}
use Rattle.pb_model_runs.specs.Possibly.{StaysWithin}
use Rattle.pb_model_runs.specs.Inevitably.{CanLeave}

-- a run by the steps of A, within the ranges, to before a step of A that leaves them
pub record LeadsOut (m : Model) (A : StepSet) (s : State) : Type 0 where
  pub path : List Move
  pub run : IsRun m s path
  pub by : AreBy A path
  pub within : StaysWithin m path
  pub leaves : CanLeave m A (last_state s path)
