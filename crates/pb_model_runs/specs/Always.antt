-- What `nu X . f && [A] X` says of runs: f in each state of each run by the steps of A, and no such
-- run leaves the ranges.
use Rattle.std.specs.Prelude.{◌≡◌, ◌⊎◌, true, false, ⊤, List, [], ◌∷◌}
use Rattle.pb_fixpoint.specs.declared.Sign.TheVariants.{Nu}
use Rattle.pb_text_meaning.specs.Syntax.{Name}
use Rattle.pb_model_meaning.specs.Syntax.{StepSet, Formula, Model}
use Rattle.pb_model_meaning.specs.Steps.{State, has_step, is_state}
use Rattle.pb_model_meaning.specs.Positive.{IsPositive}
use Rattle.pb_model_meaning.specs.Satisfaction.{States, Valuation, satisfying, with_set}
use Rattle.pb_model_runs.specs.Runs.{Move, IsRun, last_state}

abbrev pub always_by : StepSet → Name → Formula → Formula
always_by A X f =
    Formula.Fixpoint Nu X (Formula.And f (Formula.Box A (Formula.Named X)))

-- each step is one of a set
abbrev pub AreBy : StepSet → List Move → Type 0
AreBy A [] = ⊤
AreBy A (x ∷ path) = (has_step A x.name ≡ true) × AreBy A path

-- the truth of f doesn't hang on the set of X, as that of data doesn't
abbrev pub IsWithout : Model → Valuation → Name → Formula → Type 0
IsWithout m ρ X f = (S : States) → satisfying m (with_set ρ X S) f ≡ satisfying m ρ f

-- a run by the steps of A from s to a state that is outside the ranges, or in which f is false
pub record IsViolated (m : Model) (ρ : Valuation) (A : StepSet) (f : Formula) (s : State)
    : Type 0 where
  pub path : List Move
  pub run : IsRun m s path
  pub by : AreBy A path
  pub ends :
      (is_state m (last_state s path) ≡ false) ⊎ (satisfying m ρ f (last_state s path) ≡ false)

-- where it is false, a run shows it
abbrev pub FalseHasRun : Type 0
FalseHasRun =
    (m : Model) (ρ : Valuation) (A : StepSet) (X : Name) (f : Formula) (s : State) →
    IsWithout m ρ X f → satisfying m ρ (always_by A X f) s ≡ false → IsViolated m ρ A f s

-- where it is true, each such run stays within the ranges, and f is true where it ends
abbrev pub TrueHoldsOnRuns : Type 0
TrueHoldsOnRuns =
    (m : Model) (ρ : Valuation) (A : StepSet) (X : Name) (f : Formula) (s : State) →
    IsWithout m ρ X f → IsPositive (always_by A X f) → is_state m s ≡ true →
    satisfying m ρ (always_by A X f) s ≡ true →
    (path : List Move) → IsRun m s path → AreBy A path →
    (is_state m (last_state s path) ≡ true) × (satisfying m ρ f (last_state s path) ≡ true)

-- and so such a run shows that it is false
abbrev pub RunsRefute : Type 0
RunsRefute =
    (m : Model) (ρ : Valuation) (A : StepSet) (X : Name) (f : Formula) (s : State) →
    IsWithout m ρ X f → IsPositive (always_by A X f) → is_state m s ≡ true →
    IsViolated m ρ A f s → satisfying m ρ (always_by A X f) s ≡ false
