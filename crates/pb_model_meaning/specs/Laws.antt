-- What the sets of fixpoints are, where formulas are positive: the least and the greatest fixpoint
-- (Knaster and Tarski).
use Rattle.std.specs.Prelude.{◌≡◌, true}
use Rattle.pb_fixpoint.specs.declared.Sign.{Sign}
use Rattle.pb_fixpoint.specs.declared.Sign.TheVariants.{Mu, Nu}
use Rattle.pb_text_meaning.specs.Syntax.{Name}
use Rattle.pb_model_meaning.specs.Syntax.{Formula, Model}
use Rattle.pb_model_meaning.specs.Steps.{State, is_state}
use Rattle.pb_model_meaning.specs.Satisfaction.{States, Valuation, with_set, satisfying}
use Rattle.pb_model_meaning.specs.Positive.{IsPositive}

-- each state of the model that is in S is in T
abbrev pub WithinModel : Model → States → States → Type 0
WithinModel m S T = (s : State) → is_state m s ≡ true → S s ≡ true → T s ≡ true

-- at the states of the model, T is a fixpoint of g, and within each set that g doesn't enlarge
pub record IsLeastFixpoint (m : Model) (g : States → States) (T : States) : Type 0 where
  pub fixpoint : (s : State) → is_state m s ≡ true → g T s ≡ T s
  pub least : (S : States) → WithinModel m (g S) S → WithinModel m T S

-- at the states of the model, T is a fixpoint of g, and each set that g doesn't cut is within it
pub record IsGreatestFixpoint (m : Model) (g : States → States) (T : States) : Type 0 where
  pub fixpoint : (s : State) → is_state m s ≡ true → g T s ≡ T s
  pub greatest : (S : States) → WithinModel m S (g S) → WithinModel m S T

abbrev pub IsExtremeFixpoint : Sign → Model → (States → States) → States → Type 0
IsExtremeFixpoint Mu m g T = IsLeastFixpoint m g T
IsExtremeFixpoint Nu m g T = IsGreatestFixpoint m g T

-- mu X . f and nu X . f have the least and the greatest fixpoint of S ↦ ⟦f⟧ρ[X := S]
abbrev pub FixpointsAreExtreme : Type 0
FixpointsAreExtreme =
    (m : Model) (ρ : Valuation) (sign : Sign) (X : Name) (f : Formula) →
    IsPositive (Formula.Fixpoint sign X f) →
    IsExtremeFixpoint sign m (λ S. satisfying m (with_set ρ X S) f)
    (satisfying m ρ (Formula.Fixpoint sign X f))
