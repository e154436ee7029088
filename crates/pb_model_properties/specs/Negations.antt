-- The model that is solved in the place of the protocol with the negation of one property alone.
use Rattle.std.specs.Prelude.{◌≡◌, ◌<◌, ◌⊎◌, ℕ, List, [], ◌∷◌, Some, length}
use Rattle.std.specs.List.{slice_get}
use Rattle.pb_model_tree.specs.Form as model_form
use Rattle.pb_model_tree.specs.Form.{model_form}
use Rattle.pb_protocol_tree.specs.Form.{PropertyForm, ProtocolForm}
use Rattle.pb_protocol_negation.specs.Negated.{negated, negated_property}
use Rattle.pb_model_faults.specs.declared.ModelFault.{ModelFault}
use Rattle.pb_model_properties.specs.declared.solved.SolvedModel.{SolvedModel}
use Rattle.pb_model_properties.specs.Refusals.{IsOfUnsettled, IsRefusedProtocol}
use Rattle.pb_model_properties.specs.Said.{protocol_satisfies, tree_satisfies, IsTheReading}
use Rattle.pb_model_properties.specs.Words.{IsToldModel}

-- the protocol with this property alone
abbrev pub with_property : ProtocolForm → PropertyForm → ProtocolForm
with_property protocol p = record protocol { properties = p ∷ [] }

-- with its negation alone, by the same name at the same place
abbrev pub with_negation : ProtocolForm → PropertyForm → ProtocolForm
with_negation protocol p = with_property protocol (negated_property p)

-- the bytes say a protocol with a property at the place
abbrev pub HasPropertyAt : List ℕ → ℕ → Type 0
HasPropertyAt bytes place =
    (protocol : ProtocolForm) × IsTheReading bytes protocol × (place < length protocol.properties)

-- The bytes say a protocol with this property at the place, and the model is solved in the place of
-- the protocol with the negation of it alone. So the model satisfies its one property exactly where
-- the protocol satisfies that negation.
pub record IsNegationOf (bytes : List ℕ) (place : ℕ) (solved : SolvedModel) : Type 0 where
  pub protocol : ProtocolForm
  pub read : IsTheReading bytes protocol
  pub property : PropertyForm
  pub stands : slice_get protocol.properties place ≡ Some property
  pub told : IsToldModel (with_negation protocol property) solved
  pub negation : model_form.PropertyForm
  pub first : slice_get (model_form solved.typed.model).properties 0 ≡ Some negation
  pub says :
      tree_satisfies (model_form solved.typed.model) negation.formula
      ≡ protocol_satisfies protocol (negated property.formula)

-- the protocol with that negation alone is refused by the fault; or it is that of a text in which a
-- constant or a bound isn't unfolded, for this fault
pub record IsRefusedNegation (bytes : List ℕ) (place : ℕ) (fault : ModelFault) : Type 0 where
  pub protocol : ProtocolForm
  pub read : IsTheReading bytes protocol
  pub property : PropertyForm
  pub stands : slice_get protocol.properties place ≡ Some property
  pub refused :
      IsRefusedProtocol (with_negation protocol property) fault ⊎ IsOfUnsettled protocol fault
