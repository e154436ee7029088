-- Counterexamples of reactivity, where b infinitely often, a infinitely often too,
-- `nu X . mu Y . nu Z . [A] X && [B] Y && [C] Z`: a run by the steps of the three sets that at last
-- goes round by those of B and of C, with one of B in each round, or that can leave the ranges.
-- There is no other kind (Clarke, Grumberg and Peled 1999); a run that ends is none.
use Rattle.std.specs.Prelude.{◌≡◌, ◌⊎◌, true, false, List, ◌++◌}
use Rattle.pb_text_meaning.specs.Syntax.{Name, same_name}
use Rattle.pb_model_meaning.specs.Syntax.{StepSet, Model}
use Rattle.pb_model_meaning.specs.Steps.{State, has_step, is_state}
use Rattle.pb_model_meaning.specs.Satisfaction.{Valuation, satisfying}
use Rattle.pb_model_runs.specs.Runs.{Move, IsLasso, last_state}
use Rattle.pb_model_runs.specs.Always.{AreBy}
use Rattle.pb_model_runs.specs.Possibly.{StaysWithin}
use Rattle.pb_model_run_laws.specs.Reactivity.{reactivity_by}
use Rattle.pb_model_fair_run_laws.specs.LeadsOut.{LeadsOut}
use Rattle.pb_model_fair_run_laws.specs.Once.{Once}

-- the steps of the three sets
abbrev pub any_of_three : StepSet → StepSet → StepSet → StepSet
any_of_three A B C = StepSet.Union A (StepSet.Union B C)

-- a lasso of steps of the three sets, within the ranges, with those of B and of C in its loop, and
-- one of B
pub record IsUnreactive (m : Model) (A B C : StepSet) (s : State) : Type 0 where
  pub stem : List Move
  pub loop : List Move
  pub lasso : IsLasso m s stem loop
  pub by : AreBy (any_of_three A B C) (stem ++ loop)
  pub again : AreBy (StepSet.Union B C) loop
  pub within : StaysWithin m (stem ++ loop)
  pub takes : Once (λ t x. has_step B x.name ≡ true) (last_state s stem) loop

-- the steps of A aren't taken any more where those of B are, or the run can leave the ranges
abbrev pub NeverReacts : Model → StepSet → StepSet → StepSet → State → Type 0
NeverReacts m A B C s = IsUnreactive m A B C s ⊎ LeadsOut m (any_of_three A B C) s

-- where it is false, there is such a run
abbrev pub FalseNeverReacts : Type 0
FalseNeverReacts =
    (m : Model) (ρ : Valuation) (A B C : StepSet) (X Y Z : Name) (s : State) →
    same_name Y X ≡ false → same_name Z X ≡ false → same_name Z Y ≡ false → is_state m s ≡ true →
    satisfying m ρ (reactivity_by A B C X Y Z) s ≡ false → NeverReacts m A B C s

-- where there is one, it is false
abbrev pub NeverReactsRefutes : Type 0
NeverReactsRefutes =
    (m : Model) (ρ : Valuation) (A B C : StepSet) (X Y Z : Name) (s : State) →
    same_name Y X ≡ false → same_name Z X ≡ false → same_name Z Y ≡ false → is_state m s ≡ true →
    NeverReacts m A B C s → satisfying m ρ (reactivity_by A B C X Y Z) s ≡ false
