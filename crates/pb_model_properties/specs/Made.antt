-- Which model is solved in a protocol's place.
use Rattle.std.specs.Prelude.{◌≡◌, ◌⊎◌, nat_lt, Bool, true, false, List, [], length}
use Rattle.pb_base.specs.declared.limits.TheConstants.{MAX_PARAMETERS}
use Rattle.pb_text_tree.specs.declared.place.Place.{Place}
use Rattle.pb_model_tree.specs.Form.{ModelForm}
use Rattle.pb_model_meaning.specs.Erase as model_text
use Rattle.pb_model_meaning.specs.Steps.{State}
use Rattle.pb_protocol_tree.specs.Form.{ProtocolForm}
use Rattle.pb_protocol_meaning.specs.Erase.{erase}
use Rattle.pb_protocol_unfolding.specs.ModelLaws.{flat_model}
use Rattle.pb_protocol_packing.specs.Groups.{groups_of, packed}
use Rattle.pb_protocol_packing.specs.Packable.{IsPackable}
use Rattle.pb_protocol_packing.specs.Unpacked.{unpacked}
use Rattle.pb_protocol_typing.specs.Faults.{protocol_faults}
use Rattle.pb_protocol_unfolder.specs.Origins.{told_step_places}
use Rattle.pb_protocol_unfolder.specs.Plain.{is_plain_protocol, plain_form}
use Rattle.pb_protocol_laws.specs.Solved.{itself}

-- the protocol's own model with all places, where it is plain; else the unfolded one
abbrev pub IsFlatWhere : Bool → ProtocolForm → ModelForm → Type 0
IsFlatWhere true protocol model = protocol ≡ plain_form model
IsFlatWhere false protocol model = model_text.erase model ≡ flat_model (erase protocol)

abbrev pub IsFlatOf : ProtocolForm → ModelForm → Type 0
IsFlatOf protocol model = IsFlatWhere (is_plain_protocol protocol) protocol model

-- where the names of a flat model's steps stand in the protocol, of one that is unfolded: a plain
-- protocol's model has its places
abbrev pub step_places_where : Bool → ProtocolForm → List Place
step_places_where true protocol = []
step_places_where false protocol = told_step_places protocol

abbrev pub step_name_places : ProtocolForm → List Place
step_name_places protocol = step_places_where (is_plain_protocol protocol) protocol

-- the flat model as it is, or with its variables packed
abbrev pub IsPackedWhere : Bool → ModelForm → ModelForm → Type 0
IsPackedWhere false flat model = model ≡ flat
IsPackedWhere true flat model =
    IsPackable (model_text.erase flat)
    × (model_text.erase model ≡ packed (model_text.erase flat))

-- it has more variables than a text has parameters
abbrev pub has_many_variables : ModelForm → Bool
has_many_variables model = nat_lt MAX_PARAMETERS (length model.variables)

-- The protocol keeps the rules of protocols; or it is plain and has few variables, so that its own
-- model is solved, and keeps the rules of models.
abbrev pub KeepsRules : ProtocolForm → ModelForm → Type 0
KeepsRules protocol flat =
    (protocol_faults protocol ≡ [])
    ⊎ ((protocol ≡ plain_form flat) × (has_many_variables flat ≡ false))

-- a flat model of the protocol, packed where it has many variables, else as it is
pub record IsMadeOf (protocol : ProtocolForm) (model : ModelForm) : Type 0 where
  pub flat : ModelForm
  pub from : IsFlatOf protocol flat
  pub is_packed : Bool
  pub where_many : is_packed ≡ has_many_variables flat
  pub made : IsPackedWhere is_packed flat model

-- the values of a flat model's variables that a state of the model says, packed or as it is
abbrev pub said_where : Bool → ModelForm → State → State
said_where false flat = itself
said_where true flat = unpacked (groups_of (model_text.erase flat))
