-- `nu X . [A] X && f`, where f stands last so that it needs no brackets: it says just what
-- `nu X . f && [A] X` says, that f is true in each state of each run by the steps of A. With f the
-- formula that some run leads to p it says that p stays within reach.
use Rattle.std.specs.Prelude.{◌≡◌, ◌⊎◌, true, false, List}
use Rattle.pb_fixpoint.specs.declared.Sign.TheVariants.{Nu}
use Rattle.pb_text_meaning.specs.Syntax.{Name}
use Rattle.pb_model_meaning.specs.Syntax.{StepSet, Formula, Model}
use Rattle.pb_model_meaning.specs.Steps.{State, is_state}
use Rattle.pb_model_meaning.specs.Positive.{IsPositive}
use Rattle.pb_model_meaning.specs.Satisfaction.{Valuation, satisfying}
use Rattle.pb_model_runs.specs.Runs.{Move, IsRun, last_state}
use Rattle.pb_model_runs.specs.Always.{always_by, AreBy}
use Rattle.pb_model_runs.specs.Possibly.{possibly_by, IsReached}
use Rattle.pb_model_run_laws.specs.Free.{is_free}

-- f behind the box
abbrev pub everywhere_by : StepSet → Name → Formula → Formula
everywhere_by A X f =
    Formula.Fixpoint Nu X (Formula.And (Formula.Box A (Formula.Named X)) f)

-- the order doesn't matter in a state of the model
abbrev pub EverywhereIsAlways : Type 0
EverywhereIsAlways =
    (m : Model) (ρ : Valuation) (A : StepSet) (X : Name) (f : Formula) (s : State) →
    is_state m s ≡ true →
    satisfying m ρ (everywhere_by A X f) s ≡ satisfying m ρ (always_by A X f) s

-- from every state to which the steps of A lead, those of B can lead to p
abbrev pub within_reach_by : StepSet → StepSet → Name → Name → Formula → Formula
within_reach_by A B X Y p = everywhere_by A X (possibly_by B Y p)

-- a run by the steps of A that leaves the ranges, or to a state from which no run by those of B,
-- within the ranges, leads to p
pub record IsOutOfReach (m : Model) (ρ : Valuation) (A B : StepSet) (p : Formula) (s : State)
    : Type 0 where
  pub path : List Move
  pub run : IsRun m s path
  pub by : AreBy A path
  pub ends : (is_state m (last_state s path) ≡ false) ⊎ ¬ IsReached m ρ B p (last_state s path)

-- where it is false, such a run shows it
abbrev pub FalseIsOutOfReach : Type 0
FalseIsOutOfReach =
    (m : Model) (ρ : Valuation) (A B : StepSet) (X Y : Name) (p : Formula) (s : State) →
    is_free X p ≡ false → is_free Y p ≡ false → IsPositive (within_reach_by A B X Y p) →
    is_state m s ≡ true → satisfying m ρ (within_reach_by A B X Y p) s ≡ false →
    IsOutOfReach m ρ A B p s

-- where it is true, there is none
abbrev pub TrueIsWithinReach : Type 0
TrueIsWithinReach =
    (m : Model) (ρ : Valuation) (A B : StepSet) (X Y : Name) (p : Formula) (s : State) →
    is_free X p ≡ false → is_free Y p ≡ false → IsPositive (within_reach_by A B X Y p) →
    is_state m s ≡ true → satisfying m ρ (within_reach_by A B X Y p) s ≡ true →
    ¬ IsOutOfReach m ρ A B p s
