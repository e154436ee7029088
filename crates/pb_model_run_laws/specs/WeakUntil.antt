-- What weak until, p unless q, `nu Y . q || (p && [A] Y)`, says of runs: p in each state of each
-- run by the steps of A till q is true, if ever, and till then no such run leaves the ranges.
use Rattle.std.specs.Prelude.{◌≡◌, ◌⊎◌, true, false, List}
use Rattle.pb_fixpoint.specs.declared.Sign.TheVariants.{Nu}
use Rattle.pb_text_meaning.specs.Syntax.{Name}
use Rattle.pb_model_meaning.specs.Syntax.{StepSet, Formula, Model}
use Rattle.pb_model_meaning.specs.Steps.{State, is_state}
use Rattle.pb_model_meaning.specs.Positive.{IsPositive}
use Rattle.pb_model_meaning.specs.Satisfaction.{Valuation, satisfying}
use Rattle.pb_model_runs.specs.Runs.{Move, IsRun, last_state}
use Rattle.pb_model_runs.specs.Always.{AreBy, IsWithout}
use Rattle.pb_model_run_laws.specs.Waiting.{WaitsAlong}

abbrev pub weak_until_by : StepSet → Name → Formula → Formula → Formula
weak_until_by A Y p q =
    Formula.Fixpoint Nu Y (Formula.Or q (Formula.And p (Formula.Box A (Formula.Named Y))))

-- a run by the steps of A, with p and without q before its last state, which is outside the ranges,
-- or has neither
pub record IsBroken (m : Model) (ρ : Valuation) (A : StepSet) (p q : Formula) (s : State)
    : Type 0 where
  pub path : List Move
  pub run : IsRun m s path
  pub by : AreBy A path
  pub waits : WaitsAlong m ρ p q s path
  pub ends :
      (is_state m (last_state s path) ≡ false)
      ⊎ ((satisfying m ρ p (last_state s path) ≡ false)
      × (satisfying m ρ q (last_state s path) ≡ false))

-- where it is false, such a run shows it
abbrev pub FalseWeakUntilHasRun : Type 0
FalseWeakUntilHasRun =
    (m : Model) (ρ : Valuation) (A : StepSet) (Y : Name) (p q : Formula) (s : State) →
    IsWithout m ρ Y p → IsWithout m ρ Y q → satisfying m ρ (weak_until_by A Y p q) s ≡ false →
    IsBroken m ρ A p q s

-- where it is true, there is none
abbrev pub TrueWeakUntilIsUnbroken : Type 0
TrueWeakUntilIsUnbroken =
    (m : Model) (ρ : Valuation) (A : StepSet) (Y : Name) (p q : Formula) (s : State) →
    IsWithout m ρ Y p → IsWithout m ρ Y q → IsPositive (weak_until_by A Y p q) →
    is_state m s ≡ true → satisfying m ρ (weak_until_by A Y p q) s ≡ true →
    ¬ IsBroken m ρ A p q s
