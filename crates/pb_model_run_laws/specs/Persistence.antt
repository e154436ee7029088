-- What persistence, p stays for ever at last,
-- `mu X . nu Y . (p && [A] Y) || (<true> true && [A] X)`, says of infinite runs: p isn't false
-- infinitely often on any by the steps of A.
use Rattle.std.specs.Prelude.{◌≡◌, ℕ, ◌≤◌, true, false}
use Rattle.pb_fixpoint.specs.declared.Sign.TheVariants.{Mu, Nu}
use Rattle.pb_text_meaning.specs.Syntax.{Name, same_name}
use Rattle.pb_model_meaning.specs.Syntax.{StepSet, Formula, Model}
use Rattle.pb_model_meaning.specs.Steps.{State, is_state}
use Rattle.pb_model_meaning.specs.Positive.{IsPositive}
use Rattle.pb_model_meaning.specs.Satisfaction.{Valuation, satisfying}
use Rattle.pb_model_runs.specs.Runs.{Move}
use Rattle.pb_model_run_laws.specs.Free.{is_free}
use Rattle.pb_model_run_laws.specs.InfiniteRuns.{state_at, IsInfiniteRun}

abbrev pub persistence_by : StepSet → Name → Name → Formula → Formula
persistence_by A X Y p =
    Formula.Fixpoint Mu X
    (Formula.Fixpoint Nu Y
    (Formula.Or (Formula.And p (Formula.Box A (Formula.Named Y)))
    (Formula.And (Formula.Diamond StepSet.All (Formula.Truth true))
    (Formula.Box A (Formula.Named X)))))

-- from each state on, there is one in which p is false
abbrev pub FailsInfinitelyOften : Model → Valuation → Formula → State → (ℕ → Move) → Type 0
FailsInfinitelyOften m ρ p s run =
    (n : ℕ) → (k : ℕ) × (n ≤ k) × (satisfying m ρ p (state_at s run k) ≡ false)

-- no infinite run by the steps of A does
abbrev pub TrueIsPersistent : Type 0
TrueIsPersistent =
    (m : Model) (ρ : Valuation) (A : StepSet) (X Y : Name) (p : Formula) (s : State)
    (run : ℕ → Move) → same_name Y X ≡ false → is_free X p ≡ false → is_free Y p ≡ false →
    IsPositive (persistence_by A X Y p) → is_state m s ≡ true →
    satisfying m ρ (persistence_by A X Y p) s ≡ true → IsInfiniteRun m A s run →
    ¬ FailsInfinitelyOften m ρ p s run
