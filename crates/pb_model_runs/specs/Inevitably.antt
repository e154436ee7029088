-- What `mu Y . f || <true> true && [A] Y` says of runs: there is a bound on how long the steps of A
-- can put f off, and no such run ends or leaves the ranges before.
use Rattle.std.specs.Prelude.{◌≡◌, ◌⊎◌, ℕ, ◌<◌, true, false, List, [], ◌∷◌, ◌++◌, length}
use Rattle.pb_fixpoint.specs.declared.Sign.TheVariants.{Mu}
use Rattle.pb_text_meaning.specs.Syntax.{Name}
use Rattle.pb_model_meaning.specs.Syntax.{StepSet, Formula, Model}
use Rattle.pb_model_meaning.specs.Steps.{State, has_step, is_state, state_count, successors}
use Rattle.pb_model_meaning.specs.Positive.{IsPositive}
use Rattle.pb_model_meaning.specs.Satisfaction.{Valuation, satisfying}
use Rattle.pb_model_runs.specs.Runs.{Move, IsLasso, IsMove, IsRun, last_state}
use Rattle.pb_model_runs.specs.Always.{AreBy, IsWithout}
use Rattle.pb_model_runs.specs.Possibly.{StaysWithin}

abbrev pub inevitably_by : StepSet → Name → Formula → Formula
inevitably_by A Y f =
    Formula.Fixpoint Mu Y
    (Formula.Or f
    (Formula.And (Formula.Diamond StepSet.All (Formula.Truth true))
    (Formula.Box A (Formula.Named Y))))

-- f is false in each state of a run
abbrev pub FailsAlong : Model → Valuation → Formula → State → List Move → Type 0
FailsAlong m ρ f s [] = satisfying m ρ f s ≡ false
FailsAlong m ρ f s (x ∷ path) =
    (satisfying m ρ f s ≡ false) × FailsAlong m ρ f x.state path

-- a step of A leads from the state out of the ranges
abbrev pub CanLeave : Model → StepSet → State → Type 0
CanLeave m A s =
    (x : Move) × IsMove m s x × (has_step A x.name ≡ true) × (is_state m x.state ≡ false)

-- f is put off for n steps, or until no step can be taken, or one leaves the ranges
pub record IsPutOff (m : Model) (ρ : Valuation) (A : StepSet) (f : Formula) (s : State) (n : ℕ)
    : Type 0 where
  pub path : List Move
  pub run : IsRun m s path
  pub by : AreBy A path
  pub within : StaysWithin m path
  pub fails : FailsAlong m ρ f s path
  pub ends :
      (length path ≡ n) ⊎ (successors m StepSet.All (last_state s path) ≡ [])
      ⊎ CanLeave m A (last_state s path)

-- where it is false, f can be put off for any number of steps
abbrev pub FalseIsPutOff : Type 0
FalseIsPutOff =
    (m : Model) (ρ : Valuation) (A : StepSet) (Y : Name) (f : Formula) (s : State) →
    IsWithout m ρ Y f → IsPositive (inevitably_by A Y f) → is_state m s ≡ true →
    satisfying m ρ (inevitably_by A Y f) s ≡ false → (n : ℕ) → IsPutOff m ρ A f s n

-- and where it is true, it can't for as many as there are states
abbrev pub TrueIsBounded : Type 0
TrueIsBounded =
    (m : Model) (ρ : Valuation) (A : StepSet) (Y : Name) (f : Formula) (s : State) →
    IsWithout m ρ Y f → satisfying m ρ (inevitably_by A Y f) s ≡ true →
    ¬ IsPutOff m ρ A f s (state_count m)

-- a lasso of the steps of A, within the ranges, along which f is false
pub record IsPutOffForEver (m : Model) (ρ : Valuation) (A : StepSet) (f : Formula) (s : State)
    : Type 0 where
  pub stem : List Move
  pub loop : List Move
  pub lasso : IsLasso m s stem loop
  pub goes_on : 0 < length loop
  pub by : AreBy A (stem ++ loop)
  pub within : StaysWithin m (stem ++ loop)
  pub fails : FailsAlong m ρ f s (stem ++ loop)

-- and so a lasso shows that it is false
abbrev pub LassosRefute : Type 0
LassosRefute =
    (m : Model) (ρ : Valuation) (A : StepSet) (Y : Name) (f : Formula) (s : State) →
    IsWithout m ρ Y f → IsPutOffForEver m ρ A f s → satisfying m ρ (inevitably_by A Y f) s ≡ false
