-- What `mu X . f || <A> X` says of runs: some run by the steps of A, within the ranges, leads to a
-- state in which f is true.
use Rattle.std.specs.Prelude.{◌≡◌, true, ⊤, List, [], ◌∷◌}
use Rattle.pb_fixpoint.specs.declared.Sign.TheVariants.{Mu}
use Rattle.pb_text_meaning.specs.Syntax.{Name}
use Rattle.pb_model_meaning.specs.Syntax.{StepSet, Formula, Model}
use Rattle.pb_model_meaning.specs.Steps.{State, is_state}
use Rattle.pb_model_meaning.specs.Positive.{IsPositive}
use Rattle.pb_model_meaning.specs.Satisfaction.{Valuation, satisfying}
use Rattle.pb_model_runs.specs.Runs.{Move, IsRun, last_state}
use Rattle.pb_model_runs.specs.Always.{AreBy, IsWithout}

abbrev pub possibly_by : StepSet → Name → Formula → Formula
possibly_by A X f =
    Formula.Fixpoint Mu X (Formula.Or f (Formula.Diamond A (Formula.Named X)))

-- each state that a run comes to is within the ranges
abbrev pub StaysWithin : Model → List Move → Type 0
StaysWithin m [] = ⊤
StaysWithin m (x ∷ path) = (is_state m x.state ≡ true) × StaysWithin m path

pub record IsReached (m : Model) (ρ : Valuation) (A : StepSet) (f : Formula) (s : State)
    : Type 0 where
  pub path : List Move
  pub run : IsRun m s path
  pub by : AreBy A path
  pub within : StaysWithin m path
  pub ends : satisfying m ρ f (last_state s path) ≡ true

abbrev pub TrueHasRun : Type 0
TrueHasRun =
    (m : Model) (ρ : Valuation) (A : StepSet) (X : Name) (f : Formula) (s : State) →
    IsWithout m ρ X f → satisfying m ρ (possibly_by A X f) s ≡ true → IsReached m ρ A f s

abbrev pub RunsMakeTrue : Type 0
RunsMakeTrue =
    (m : Model) (ρ : Valuation) (A : StepSet) (X : Name) (f : Formula) (s : State) →
    IsWithout m ρ X f → IsPositive (possibly_by A X f) → is_state m s ≡ true →
    IsReached m ρ A f s → satisfying m ρ (possibly_by A X f) s ≡ true
