-- What the sets of fixpoints are in a protocol's own meaning, where formulas are positive: the
-- least and the greatest fixpoint (Knaster and Tarski).
use Rattle.std.specs.Prelude.{◌≡◌, true, [], All}
use Rattle.pb_fixpoint.specs.declared.Sign.{Sign}
use Rattle.pb_fixpoint.specs.declared.Sign.TheVariants.{Mu, Nu}
use Rattle.pb_text_meaning.specs.Syntax.{Name}
use Rattle.pb_text_meaning.specs.Value.{Assignment}
use Rattle.pb_model_meaning.specs.Steps.{State}
use Rattle.pb_model_meaning.specs.Satisfaction.{States, Valuation, with_set}
use Rattle.pb_protocol_tree.specs.Form.{ProtocolForm}
use Rattle.pb_protocol_meaning.specs.Syntax.{Formula, Property, Protocol}
use Rattle.pb_protocol_meaning.specs.Erase.{erase}
use Rattle.pb_protocol_meaning.specs.Steps.{is_state}
use Rattle.pb_protocol_meaning.specs.Satisfaction.{satisfying}
use Rattle.pb_protocol_typing.specs.Faults.{protocol_faults}
use Rattle.pb_protocol_laws.specs.PositiveFormulas.{IsPositive}

-- each state of the protocol that is in S is in T
abbrev pub WithinProtocol : Protocol → States → States → Type 0
WithinProtocol m S T = (s : State) → is_state m s ≡ true → S s ≡ true → T s ≡ true

-- at the states of the protocol, T is a fixpoint of g, and within each set that g doesn't enlarge
pub record IsLeastFixpoint (m : Protocol) (g : States → States) (T : States) : Type 0 where
  pub fixpoint : (s : State) → is_state m s ≡ true → g T s ≡ T s
  pub least : (S : States) → WithinProtocol m (g S) S → WithinProtocol m T S

-- at the states of the protocol, T is a fixpoint of g, and each set that g doesn't cut is within it
pub record IsGreatestFixpoint (m : Protocol) (g : States → States) (T : States) : Type 0 where
  pub fixpoint : (s : State) → is_state m s ≡ true → g T s ≡ T s
  pub greatest : (S : States) → WithinProtocol m S (g S) → WithinProtocol m S T

abbrev pub IsExtremeFixpoint : Sign → Protocol → (States → States) → States → Type 0
IsExtremeFixpoint Mu m g T = IsLeastFixpoint m g T
IsExtremeFixpoint Nu m g T = IsGreatestFixpoint m g T

-- mu X . f and nu X . f have the least and the greatest fixpoint of S ↦ ⟦f⟧V[X := S], whatever
-- values the variables of quantifiers around them have
abbrev pub FixpointsAreExtreme : Type 0
FixpointsAreExtreme =
    (m : Protocol) (V : Valuation) (c : Assignment) (sign : Sign) (X : Name) (f : Formula) →
    IsPositive (Formula.Fixpoint sign X f) →
    IsExtremeFixpoint sign m (λ S. satisfying m (with_set V X S) c f)
    (satisfying m V c (Formula.Fixpoint sign X f))

-- as the properties of a protocol that keeps the rules are
abbrev pub ProtocolPropertiesArePositive : Type 0
ProtocolPropertiesArePositive =
    (text : ProtocolForm) → protocol_faults text ≡ [] →
    All (λ (p : Property). IsPositive p.formula) (erase text).properties
