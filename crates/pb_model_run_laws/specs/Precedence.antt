-- What precedence, q not before p, `nu Y . p || (!q && [A] Y)`, says of runs: none by the steps of
-- A comes to a state with q without having been in one with p. It is `!q` unless p.
use Rattle.std.specs.Prelude.{◌≡◌, ◌⊎◌, true, false, List}
use Rattle.pb_text_meaning.specs.Syntax.{Name}
use Rattle.pb_model_meaning.specs.Syntax.{StepSet, Formula, Model}
use Rattle.pb_model_meaning.specs.Steps.{State, is_state}
use Rattle.pb_model_meaning.specs.Positive.{IsPositive}
use Rattle.pb_model_meaning.specs.Satisfaction.{Valuation, satisfying}
use Rattle.pb_model_runs.specs.Runs.{Move, IsRun, last_state}
use Rattle.pb_model_runs.specs.Always.{AreBy, IsWithout}
use Rattle.pb_model_run_laws.specs.Waiting.{WaitsAlong}
use Rattle.pb_model_run_laws.specs.WeakUntil.{weak_until_by}

abbrev pub precedence_by : StepSet → Name → Formula → Formula → Formula
precedence_by A Y p q = weak_until_by A Y (Formula.Not q) p

-- a run by the steps of A, without p and q before its last state, which is outside the ranges, or
-- has q and not p
pub record ComesBefore (m : Model) (ρ : Valuation) (A : StepSet) (p q : Formula) (s : State)
    : Type 0 where
  pub path : List Move
  pub run : IsRun m s path
  pub by : AreBy A path
  pub waits : WaitsAlong m ρ (Formula.Not q) p s path
  pub ends :
      (is_state m (last_state s path) ≡ false)
      ⊎ ((satisfying m ρ q (last_state s path) ≡ true)
      × (satisfying m ρ p (last_state s path) ≡ false))

-- where it is false, such a run shows it
abbrev pub FalsePrecedenceHasRun : Type 0
FalsePrecedenceHasRun =
    (m : Model) (ρ : Valuation) (A : StepSet) (Y : Name) (p q : Formula) (s : State) →
    IsWithout m ρ Y p → IsWithout m ρ Y q → satisfying m ρ (precedence_by A Y p q) s ≡ false →
    ComesBefore m ρ A p q s

-- where it is true, there is none
abbrev pub TruePrecedenceHasNone : Type 0
TruePrecedenceHasNone =
    (m : Model) (ρ : Valuation) (A : StepSet) (Y : Name) (p q : Formula) (s : State) →
    IsWithout m ρ Y p → IsWithout m ρ Y q → IsPositive (precedence_by A Y p q) →
    is_state m s ≡ true → satisfying m ρ (precedence_by A Y p q) s ≡ true →
    ¬ ComesBefore m ρ A p q s
