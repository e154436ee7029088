-- What "p at last, on paths that are weakly fair to each process" says of infinite runs: there is
-- none that is weakly fair to each and never comes to p. A process is a set of steps.
use Rattle.std.specs.Prelude.{◌≡◌, ◌⊎◌, ℕ, ◌≤◌, true, false, List, [], ◌∷◌, Contains}
use Rattle.pb_fixpoint.specs.declared.Sign.TheVariants.{Mu, Nu}
use Rattle.pb_text_meaning.specs.Syntax.{Name, same_name}
use Rattle.pb_model_meaning.specs.Syntax.{StepSet, Formula, Model}
use Rattle.pb_model_meaning.specs.Steps.{State, has_step, is_state, successors}
use Rattle.pb_model_meaning.specs.Positive.{IsPositive}
use Rattle.pb_model_meaning.specs.Satisfaction.{Valuation, satisfying}
use Rattle.pb_model_runs.specs.Runs.{Move}
use Rattle.pb_model_run_laws.specs.Free.{is_free}
use Rattle.pb_model_run_laws.specs.InfiniteRuns.{state_at, IsInfiniteRun}

-- nu Y . p || (<true> true && [A] Z && (<A> true || [true] Z) && [true] Y)
abbrev pub unfair_to : StepSet → Name → Name → Formula → Formula
unfair_to A Y Z p =
    Formula.Fixpoint Nu Y
    (Formula.Or p
    (Formula.And (Formula.Diamond StepSet.All (Formula.Truth true))
    (Formula.And (Formula.Box A (Formula.Named Z))
    (Formula.And
    (Formula.Or (Formula.Diamond A (Formula.Truth true))
    (Formula.Box StepSet.All (Formula.Named Z)))
    (Formula.Box StepSet.All (Formula.Named Y))))))

-- that of one process, or of another
abbrev pub unfair_to_some : StepSet → List StepSet → Name → Name → Formula → Formula
unfair_to_some A [] Y Z p = unfair_to A Y Z p
unfair_to_some A (B ∷ others) Y Z p = Formula.Or (unfair_to A Y Z p) (unfair_to_some B others Y Z p)

-- mu Z . that of one process, or of another
abbrev pub fairly_at_last : StepSet → List StepSet → Name → Name → Formula → Formula
fairly_at_last A others Y Z p = Formula.Fixpoint Mu Z (unfair_to_some A others Y Z p)

-- from each move on the process takes a step, or is unable to
abbrev pub IsWeaklyFairTo : Model → StepSet → State → (ℕ → Move) → Type 0
IsWeaklyFairTo m A s run =
    (n : ℕ) → (k : ℕ) × (n ≤ k)
    × ((has_step A (run k).name ≡ true) ⊎ (successors m A (state_at s run k) ≡ []))

-- an infinite run that is weakly fair to each isn't without p in all states
abbrev pub TrueIsFairlyAtLast : Type 0
TrueIsFairlyAtLast =
    (m : Model) (ρ : Valuation) (A : StepSet) (others : List StepSet) (Y Z : Name) (p : Formula)
    (s : State) (run : ℕ → Move) → same_name Y Z ≡ false → is_free Y p ≡ false →
    is_free Z p ≡ false → IsPositive (fairly_at_last A others Y Z p) → is_state m s ≡ true →
    satisfying m ρ (fairly_at_last A others Y Z p) s ≡ true → IsInfiniteRun m StepSet.All s run →
    ((B : StepSet) → Contains (A ∷ others) B → IsWeaklyFairTo m B s run) →
    ¬ ((n : ℕ) → satisfying m ρ p (state_at s run n) ≡ false)
