-- What `nu X . mu Y . <true> true && [A] X && [B] Y` says of infinite runs: one by the steps of A
-- and of B takes those of A infinitely often. With those of a for A and the others for B it says
-- that of each run; with those of b for A and those of neither a nor b for B it says that a run
-- without a takes b infinitely often, so that a comes at last where b doesn't.
use Rattle.std.specs.Prelude.{◌≡◌, ℕ, ◌≤◌, true, false}
use Rattle.pb_fixpoint.specs.declared.Sign.TheVariants.{Mu, Nu}
use Rattle.pb_text_meaning.specs.Syntax.{Name, same_name}
use Rattle.pb_model_meaning.specs.Syntax.{StepSet, Formula, Model}
use Rattle.pb_model_meaning.specs.Steps.{State, has_step, is_state}
use Rattle.pb_model_meaning.specs.Satisfaction.{Valuation, satisfying}
use Rattle.pb_model_runs.specs.Runs.{Move}
use Rattle.pb_model_run_laws.specs.InfiniteRuns.{IsInfiniteRun}

abbrev pub infinitely_often_by : StepSet → StepSet → Name → Name → Formula
infinitely_often_by A B X Y =
    Formula.Fixpoint Nu X
    (Formula.Fixpoint Mu Y
    (Formula.And (Formula.Diamond StepSet.All (Formula.Truth true))
    (Formula.And (Formula.Box A (Formula.Named X)) (Formula.Box B (Formula.Named Y)))))

-- from each move on, a step of the set is taken
abbrev pub IsTakenInfinitelyOften : StepSet → (ℕ → Move) → Type 0
IsTakenInfinitelyOften A run = (n : ℕ) → (k : ℕ) × (n ≤ k) × (has_step A (run k).name ≡ true)

-- so are those of A, by each infinite run by the steps of A and of B
abbrev pub TrueIsInfinitelyOften : Type 0
TrueIsInfinitelyOften =
    (m : Model) (ρ : Valuation) (A B : StepSet) (X Y : Name) (s : State) (run : ℕ → Move) →
    same_name Y X ≡ false → is_state m s ≡ true →
    satisfying m ρ (infinitely_often_by A B X Y) s ≡ true →
    IsInfiniteRun m (StepSet.Union A B) s run → IsTakenInfinitelyOften A run

-- and by each infinite run, where the steps of B are all that aren't of A
abbrev pub TakenInfinitelyOften : Type 0
TakenInfinitelyOften =
    (m : Model) (ρ : Valuation) (A : StepSet) (X Y : Name) (s : State) (run : ℕ → Move) →
    same_name Y X ≡ false → is_state m s ≡ true →
    satisfying m ρ (infinitely_often_by A (StepSet.Complement A) X Y) s ≡ true →
    IsInfiniteRun m StepSet.All s run → IsTakenInfinitelyOften A run
