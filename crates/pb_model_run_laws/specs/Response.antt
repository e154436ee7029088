-- What response, after each p, q at last,
-- `nu X . [A] X && (p => mu Y . q || (<true> true && [B] Y))`, says of runs: behind each by the
-- steps of A that comes to p there is a bound on how long those of B can put q off.
use Rattle.std.specs.Prelude.{◌≡◌, ◌⊎◌, ℕ, true, false, List}
use Rattle.pb_text_meaning.specs.Syntax.{Name}
use Rattle.pb_model_meaning.specs.Syntax.{StepSet, Formula, Model}
use Rattle.pb_model_meaning.specs.Steps.{State, is_state}
use Rattle.pb_model_meaning.specs.Positive.{IsPositive}
use Rattle.pb_model_meaning.specs.Satisfaction.{Valuation, satisfying}
use Rattle.pb_model_runs.specs.Runs.{Move, IsRun, last_state}
use Rattle.pb_model_runs.specs.Always.{AreBy}
use Rattle.pb_model_runs.specs.Inevitably.{inevitably_by, IsPutOff}
use Rattle.pb_model_run_laws.specs.Free.{is_free}
use Rattle.pb_model_run_laws.specs.Everywhere.{everywhere_by}

abbrev pub response_by : StepSet → StepSet → Name → Name → Formula → Formula → Formula
response_by A B X Y p q = everywhere_by A X (Formula.Implies p (inevitably_by B Y q))

-- a run by the steps of A that leaves the ranges, or to a state with p, from which those of B can
-- put q off for any number of steps
pub record IsUnanswered (m : Model) (ρ : Valuation) (A B : StepSet) (p q : Formula) (s : State)
    : Type 0 where
  pub path : List Move
  pub run : IsRun m s path
  pub by : AreBy A path
  pub ends :
      (is_state m (last_state s path) ≡ false)
      ⊎ ((satisfying m ρ p (last_state s path) ≡ true)
      × ((n : ℕ) → IsPutOff m ρ B q (last_state s path) n))

-- where it is false, such a run shows it
abbrev pub FalseIsUnanswered : Type 0
FalseIsUnanswered =
    (m : Model) (ρ : Valuation) (A B : StepSet) (X Y : Name) (p q : Formula) (s : State) →
    is_free X p ≡ false → is_free X q ≡ false → is_free Y q ≡ false →
    IsPositive (response_by A B X Y p q) → is_state m s ≡ true →
    satisfying m ρ (response_by A B X Y p q) s ≡ false → IsUnanswered m ρ A B p q s

-- where it is true, there is none
abbrev pub TrueIsAnswered : Type 0
TrueIsAnswered =
    (m : Model) (ρ : Valuation) (A B : StepSet) (X Y : Name) (p q : Formula) (s : State) →
    is_free X p ≡ false → is_free X q ≡ false → is_free Y q ≡ false →
    IsPositive (response_by A B X Y p q) → is_state m s ≡ true →
    satisfying m ρ (response_by A B X Y p q) s ≡ true → ¬ IsUnanswered m ρ A B p q s
