-- Counterexamples of persistence, p stays for ever at last,
-- `mu X . nu Y . (p && [A] Y) || (<true> true && [A] X)`: a run by the steps of A that goes round
-- through a state in which p is false, that ends where p is false, or that can leave the ranges.
-- There is no other kind, since of as many states in which p is false as the model has states one
-- comes twice (Clarke, Grumberg and Peled 1999).
use Rattle.std.specs.Prelude.{◌≡◌, ◌⊎◌, true, false, List, [], ◌++◌}
use Rattle.pb_text_meaning.specs.Syntax.{Name, same_name}
use Rattle.pb_model_meaning.specs.Syntax.{StepSet, Formula, Model}
use Rattle.pb_model_meaning.specs.Steps.{State, is_state, successors}
use Rattle.pb_model_meaning.specs.Positive.{IsPositive}
use Rattle.pb_model_meaning.specs.Satisfaction.{Valuation, satisfying}
use Rattle.pb_model_runs.specs.Runs.{Move, IsLasso, IsRun, last_state}
use Rattle.pb_model_runs.specs.Always.{AreBy}
use Rattle.pb_model_runs.specs.Possibly.{StaysWithin}
use Rattle.pb_model_run_laws.specs.Free.{is_free}
use Rattle.pb_model_run_laws.specs.Persistence.{persistence_by}
use Rattle.pb_model_fair_run_laws.specs.LeadsOut.{LeadsOut}
use Rattle.pb_model_fair_run_laws.specs.Once.{Once}

-- a lasso of steps of A, within the ranges, with a state in its loop in which p is false
pub record IsUnsettledForEver (m : Model) (ρ : Valuation) (A : StepSet) (p : Formula) (s : State)
    : Type 0 where
  pub stem : List Move
  pub loop : List Move
  pub lasso : IsLasso m s stem loop
  pub by : AreBy A (stem ++ loop)
  pub within : StaysWithin m (stem ++ loop)
  pub fails : Once (λ t x. satisfying m ρ p t ≡ false) (last_state s stem) loop

-- a run by the steps of A to where no step can be taken and p is false
pub record EndsUnsettled (m : Model) (ρ : Valuation) (A : StepSet) (p : Formula) (s : State)
    : Type 0 where
  pub path : List Move
  pub run : IsRun m s path
  pub by : AreBy A path
  pub within : StaysWithin m path
  pub fails : satisfying m ρ p (last_state s path) ≡ false
  pub ends : successors m StepSet.All (last_state s path) ≡ []

-- p doesn't stay: on some run it is false again and again, or where the run ends, or the run can
-- leave the ranges
abbrev pub NeverSettles : Model → Valuation → StepSet → Formula → State → Type 0
NeverSettles m ρ A p s =
    IsUnsettledForEver m ρ A p s ⊎ EndsUnsettled m ρ A p s ⊎ LeadsOut m A s

-- where it is false, there is such a run
abbrev pub FalseNeverSettles : Type 0
FalseNeverSettles =
    (m : Model) (ρ : Valuation) (A : StepSet) (X Y : Name) (p : Formula) (s : State) →
    same_name Y X ≡ false → is_free X p ≡ false → is_free Y p ≡ false →
    IsPositive (persistence_by A X Y p) → is_state m s ≡ true →
    satisfying m ρ (persistence_by A X Y p) s ≡ false → NeverSettles m ρ A p s

-- where there is one, it is false
abbrev pub NeverSettlesRefutes : Type 0
NeverSettlesRefutes =
    (m : Model) (ρ : Valuation) (A : StepSet) (X Y : Name) (p : Formula) (s : State) →
    same_name Y X ≡ false → is_free X p ≡ false → is_free Y p ≡ false →
    IsPositive (persistence_by A X Y p) → is_state m s ≡ true → NeverSettles m ρ A p s →
    satisfying m ρ (persistence_by A X Y p) s ≡ false
