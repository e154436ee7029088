-- What reactivity, where b infinitely often, a infinitely often too,
-- `nu X . mu Y . nu Z . [A] X && [B] Y && [C] Z`, says of infinite runs by the steps of A, of B and
-- of C: one that takes those of B infinitely often takes those of A so too.
use Rattle.std.specs.Prelude.{◌≡◌, ℕ, true, false}
use Rattle.pb_fixpoint.specs.declared.Sign.TheVariants.{Mu, Nu}
use Rattle.pb_text_meaning.specs.Syntax.{Name, same_name}
use Rattle.pb_model_meaning.specs.Syntax.{StepSet, Formula, Model}
use Rattle.pb_model_meaning.specs.Steps.{State, is_state}
use Rattle.pb_model_meaning.specs.Satisfaction.{Valuation, satisfying}
use Rattle.pb_model_runs.specs.Runs.{Move}
use Rattle.pb_model_run_laws.specs.InfiniteRuns.{IsInfiniteRun}
use Rattle.pb_model_run_laws.specs.InfinitelyOften.{IsTakenInfinitelyOften}

abbrev pub reactivity_by : StepSet → StepSet → StepSet → Name → Name → Name → Formula
reactivity_by A B C X Y Z =
    Formula.Fixpoint Nu X
    (Formula.Fixpoint Mu Y
    (Formula.Fixpoint Nu Z
    (Formula.And (Formula.Box A (Formula.Named X))
    (Formula.And (Formula.Box B (Formula.Named Y)) (Formula.Box C (Formula.Named Z))))))

-- on each infinite run by the steps of the three sets
abbrev pub TrueIsReactive : Type 0
TrueIsReactive =
    (m : Model) (ρ : Valuation) (A B C : StepSet) (X Y Z : Name) (s : State) (run : ℕ → Move) →
    same_name Y X ≡ false → same_name Z X ≡ false → same_name Z Y ≡ false → is_state m s ≡ true →
    satisfying m ρ (reactivity_by A B C X Y Z) s ≡ true →
    IsInfiniteRun m (StepSet.Union A (StepSet.Union B C)) s run →
    IsTakenInfinitelyOften B run → IsTakenInfinitelyOften A run
