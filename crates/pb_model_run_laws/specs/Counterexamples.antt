-- Counterexamples of what has to come at last: a lasso, a dead end or a way out of the ranges.
-- There is no other kind, since a run that is as long as there are states comes to one of them
-- twice (Clarke, Grumberg and Peled 1999). The beginning of a run is none: behind it, what is
-- asked for can still come (Alpern and Schneider 1985).
use Rattle.std.specs.Prelude.{◌≡◌, ◌⊎◌, ◌≤◌, ◌<◌, true, false, List, [], ◌++◌, length}
use Rattle.pb_text_meaning.specs.Syntax.{Name}
use Rattle.pb_model_meaning.specs.Syntax.{StepSet, Formula, Model}
use Rattle.pb_model_meaning.specs.Steps.{State, has_step, is_state, state_count, successors}
use Rattle.pb_model_meaning.specs.Positive.{IsPositive}
use Rattle.pb_model_meaning.specs.Satisfaction.{Valuation, satisfying}
use Rattle.pb_model_runs.specs.Runs.{Move, IsLasso, IsMove, IsRun, last_state}
use Rattle.pb_model_runs.specs.Always.{AreBy, IsWithout}
use Rattle.pb_model_runs.specs.Possibly.{StaysWithin}
use Rattle.pb_model_runs.specs.Inevitably.{inevitably_by, CanLeave, FailsAlong, IsPutOffForEver}
use Rattle.pb_model_run_laws.specs.AtLast.{other_at_last_by}
use Rattle.pb_model_run_laws.specs.Free.{is_free}
use Rattle.pb_model_run_laws.specs.Response.{response_by}
use Rattle.pb_model_run_laws.specs.StepResponse.{step_response_by}
use Rattle.pb_model_run_laws.specs.Until.{until_by, IsKeptWaitingForEver}
use Rattle.pb_model_run_laws.specs.Waiting.{WaitsAlong}

-- ---- runs that come back

-- behind some moves of a path come others that lead back to where these begin
pub record ComesBack (s : State) (path : List Move) : Type 0 where
  pub stem : List Move
  pub loop : List Move
  pub rest : List Move
  pub parts : path ≡ (stem ++ loop) ++ rest
  pub goes_on : 0 < length loop
  pub back : last_state s (stem ++ loop) ≡ last_state s stem

-- so do moves within the ranges that are as many as there are states
abbrev pub LongRunsComeBack : Type 0
LongRunsComeBack =
    (m : Model) (s : State) (path : List Move) → is_state m s ≡ true → StaysWithin m path →
    state_count m ≤ length path → ComesBack s path

-- no step can be taken, or one of A leaves the ranges
abbrev pub IsStopped : Model → StepSet → State → Type 0
IsStopped m A s = (successors m StepSet.All s ≡ []) ⊎ CanLeave m A s

-- ---- f at last

-- a run by the steps of A without f to a dead end, or to before a way out
pub record IsPutOffToEnd (m : Model) (ρ : Valuation) (A : StepSet) (f : Formula) (s : State)
    : Type 0 where
  pub path : List Move
  pub run : IsRun m s path
  pub by : AreBy A path
  pub within : StaysWithin m path
  pub fails : FailsAlong m ρ f s path
  pub ends : IsStopped m A (last_state s path)

-- f doesn't come on a lasso, or till a run ends
abbrev pub NeverComes : Model → Valuation → StepSet → Formula → State → Type 0
NeverComes m ρ A f s = IsPutOffForEver m ρ A f s ⊎ IsPutOffToEnd m ρ A f s

-- where it is false, such a run shows it
abbrev pub FalseNeverComes : Type 0
FalseNeverComes =
    (m : Model) (ρ : Valuation) (A : StepSet) (Y : Name) (f : Formula) (s : State) →
    IsWithout m ρ Y f → IsPositive (inevitably_by A Y f) → is_state m s ≡ true →
    satisfying m ρ (inevitably_by A Y f) s ≡ false → NeverComes m ρ A f s

-- where there is one, it is false
abbrev pub NeverComesRefutes : Type 0
NeverComesRefutes =
    (m : Model) (ρ : Valuation) (A : StepSet) (Y : Name) (f : Formula) (s : State) →
    IsWithout m ρ Y f → NeverComes m ρ A f s → satisfying m ρ (inevitably_by A Y f) s ≡ false

-- ---- a step of others than A at last

-- a lasso of the steps of A, within the ranges
pub record IsAvoidedForEver (m : Model) (A : StepSet) (s : State) : Type 0 where
  pub stem : List Move
  pub loop : List Move
  pub lasso : IsLasso m s stem loop
  pub goes_on : 0 < length loop
  pub by : AreBy A (stem ++ loop)
  pub within : StaysWithin m (stem ++ loop)

-- a run by the steps of A to a dead end, or to before a way out
pub record IsAvoidedToEnd (m : Model) (A : StepSet) (s : State) : Type 0 where
  pub path : List Move
  pub run : IsRun m s path
  pub by : AreBy A path
  pub within : StaysWithin m path
  pub ends : IsStopped m A (last_state s path)

abbrev pub NeverTaken : Model → StepSet → State → Type 0
NeverTaken m A s = IsAvoidedForEver m A s ⊎ IsAvoidedToEnd m A s

abbrev pub FalseNeverTaken : Type 0
FalseNeverTaken =
    (m : Model) (ρ : Valuation) (A : StepSet) (Y : Name) (s : State) → is_state m s ≡ true →
    satisfying m ρ (other_at_last_by A Y) s ≡ false → NeverTaken m A s

abbrev pub NeverTakenRefutes : Type 0
NeverTakenRefutes =
    (m : Model) (ρ : Valuation) (A : StepSet) (Y : Name) (s : State) → NeverTaken m A s →
    satisfying m ρ (other_at_last_by A Y) s ≡ false

-- ---- p until q

-- a run by the steps of A without q, and with p before its last state, to a state in which p is
-- false, to a dead end, or to before a way out
pub record IsKeptWaitingToEnd (m : Model) (ρ : Valuation) (A : StepSet) (p q : Formula) (s : State)
    : Type 0 where
  pub path : List Move
  pub run : IsRun m s path
  pub by : AreBy A path
  pub within : StaysWithin m path
  pub waits : WaitsAlong m ρ p q s path
  pub fails : satisfying m ρ q (last_state s path) ≡ false
  pub ends :
      (satisfying m ρ p (last_state s path) ≡ false) ⊎ IsStopped m A (last_state s path)

abbrev pub NeverMet : Model → Valuation → StepSet → Formula → Formula → State → Type 0
NeverMet m ρ A p q s = IsKeptWaitingForEver m ρ A p q s ⊎ IsKeptWaitingToEnd m ρ A p q s

abbrev pub FalseNeverMet : Type 0
FalseNeverMet =
    (m : Model) (ρ : Valuation) (A : StepSet) (Y : Name) (p q : Formula) (s : State) →
    IsWithout m ρ Y p → IsWithout m ρ Y q → IsPositive (until_by A Y p q) → is_state m s ≡ true →
    satisfying m ρ (until_by A Y p q) s ≡ false → NeverMet m ρ A p q s

abbrev pub NeverMetRefutes : Type 0
NeverMetRefutes =
    (m : Model) (ρ : Valuation) (A : StepSet) (Y : Name) (p q : Formula) (s : State) →
    IsWithout m ρ Y p → IsWithout m ρ Y q → NeverMet m ρ A p q s →
    satisfying m ρ (until_by A Y p q) s ≡ false

-- ---- after each p, q at last

-- a run by the steps of A that leaves the ranges, or to a state with p, from which q doesn't come
pub record IsNeverAnswered (m : Model) (ρ : Valuation) (A B : StepSet) (p q : Formula) (s : State)
    : Type 0 where
  pub path : List Move
  pub run : IsRun m s path
  pub by : AreBy A path
  pub ends :
      (is_state m (last_state s path) ≡ false)
      ⊎ ((satisfying m ρ p (last_state s path) ≡ true) × NeverComes m ρ B q (last_state s path))

abbrev pub FalseNeverAnswered : Type 0
FalseNeverAnswered =
    (m : Model) (ρ : Valuation) (A B : StepSet) (X Y : Name) (p q : Formula) (s : State) →
    is_free X p ≡ false → is_free X q ≡ false → is_free Y q ≡ false →
    IsPositive (response_by A B X Y p q) → is_state m s ≡ true →
    satisfying m ρ (response_by A B X Y p q) s ≡ false → IsNeverAnswered m ρ A B p q s

abbrev pub NeverAnsweredRefutes : Type 0
NeverAnsweredRefutes =
    (m : Model) (ρ : Valuation) (A B : StepSet) (X Y : Name) (p q : Formula) (s : State) →
    is_free X p ≡ false → is_free X q ≡ false → is_free Y q ≡ false →
    IsPositive (response_by A B X Y p q) → is_state m s ≡ true → IsNeverAnswered m ρ A B p q s →
    satisfying m ρ (response_by A B X Y p q) s ≡ false

-- ---- after each step of C, one of others than B at last

-- a run by the steps of A that leaves the ranges, or to before a step of C that does, or behind
-- which those of B go on alone
pub record IsNeverFollowed (m : Model) (A C B : StepSet) (s : State) : Type 0 where
  pub path : List Move
  pub run : IsRun m s path
  pub by : AreBy A path
  pub ends :
      (is_state m (last_state s path) ≡ false)
      ⊎ ((x : Move) × IsMove m (last_state s path) x × (has_step C x.name ≡ true)
      × ((is_state m x.state ≡ false) ⊎ NeverTaken m B x.state))

abbrev pub FalseNeverFollowed : Type 0
FalseNeverFollowed =
    (m : Model) (ρ : Valuation) (A C B : StepSet) (X Y : Name) (s : State) →
    is_state m s ≡ true → satisfying m ρ (step_response_by A C B X Y) s ≡ false →
    IsNeverFollowed m A C B s

abbrev pub NeverFollowedRefutes : Type 0
NeverFollowedRefutes =
    (m : Model) (ρ : Valuation) (A C B : StepSet) (X Y : Name) (s : State) →
    is_state m s ≡ true → IsNeverFollowed m A C B s →
    satisfying m ρ (step_response_by A C B X Y) s ≡ false
