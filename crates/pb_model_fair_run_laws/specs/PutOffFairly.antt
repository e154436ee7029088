-- Counterexamples of "p at last, on paths that are weakly fair to each process": a run without p
-- that goes round and in each round is fair to each process, that ends, or that can leave the
-- ranges. There is no other kind: from where the formula is false the part of each process leads
-- on to where it is false again, so that all have their turn, one after another, until a state
-- comes twice (Emerson and Lei 1985).
use Rattle.std.specs.Prelude.{◌≡◌, ◌⊎◌, ◌<◌, true, false, List, [], ◌∷◌, ◌++◌, length, Contains}
use Rattle.pb_text_meaning.specs.Syntax.{Name, same_name}
use Rattle.pb_model_meaning.specs.Syntax.{StepSet, Formula, Model}
use Rattle.pb_model_meaning.specs.Steps.{State, has_step, is_state, successors}
use Rattle.pb_model_meaning.specs.Positive.{IsPositive}
use Rattle.pb_model_meaning.specs.Satisfaction.{Valuation, satisfying}
use Rattle.pb_model_runs.specs.Runs.{Move, IsLasso, last_state}
use Rattle.pb_model_runs.specs.Possibly.{StaysWithin}
use Rattle.pb_model_runs.specs.Inevitably.{FailsAlong}
use Rattle.pb_model_run_laws.specs.Counterexamples.{IsPutOffToEnd}
use Rattle.pb_model_run_laws.specs.Free.{is_free}
use Rattle.pb_model_run_laws.specs.WeakFairness.{fairly_at_last}
use Rattle.pb_model_fair_run_laws.specs.Once.{Once}

-- the process takes this step, or can't take any where it is taken
abbrev pub IsServed : Model → StepSet → State → Move → Type 0
IsServed m A s x = (has_step A x.name ≡ true) ⊎ (successors m A s ≡ [])

-- a lasso within the ranges and without p, in whose loop each process takes a step or is unable to
pub record IsPutOffFairly (m : Model) (ρ : Valuation) (processes : List StepSet) (p : Formula)
    (s : State) : Type 0 where
  pub stem : List Move
  pub loop : List Move
  pub lasso : IsLasso m s stem loop
  pub goes_on : 0 < length loop
  pub within : StaysWithin m (stem ++ loop)
  pub fails : FailsAlong m ρ p s (stem ++ loop)
  pub fair :
      (A : StepSet) → Contains processes A → Once (IsServed m A) (last_state s stem) loop

-- p doesn't come on such a lasso, or till a run ends or can leave the ranges
abbrev pub NeverComesFairly : Model → Valuation → List StepSet → Formula → State → Type 0
NeverComesFairly m ρ processes p s =
    IsPutOffFairly m ρ processes p s ⊎ IsPutOffToEnd m ρ StepSet.All p s

-- where it is false, there is such a run
abbrev pub FalseNeverComesFairly : Type 0
FalseNeverComesFairly =
    (m : Model) (ρ : Valuation) (A : StepSet) (others : List StepSet) (Y Z : Name) (p : Formula)
    (s : State) → same_name Y Z ≡ false → is_free Y p ≡ false → is_free Z p ≡ false →
    IsPositive (fairly_at_last A others Y Z p) → is_state m s ≡ true →
    satisfying m ρ (fairly_at_last A others Y Z p) s ≡ false →
    NeverComesFairly m ρ (A ∷ others) p s

-- where there is one, it is false
abbrev pub NeverComesFairlyRefutes : Type 0
NeverComesFairlyRefutes =
    (m : Model) (ρ : Valuation) (A : StepSet) (others : List StepSet) (Y Z : Name) (p : Formula)
    (s : State) → same_name Y Z ≡ false → is_free Y p ≡ false → is_free Z p ≡ false →
    IsPositive (fairly_at_last A others Y Z p) → is_state m s ≡ true →
    NeverComesFairly m ρ (A ∷ others) p s →
    satisfying m ρ (fairly_at_last A others Y Z p) s ≡ false
