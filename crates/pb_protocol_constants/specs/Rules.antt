-- What constants and bounds that aren't refused keep to.
use Rattle.std.specs.Prelude.{◌≡◌, int_le, true, List, [], ◌∷◌, ◌++◌, All, codes}
use Rattle.pb_text_tree.specs.declared.place.Place.{Place}
use Rattle.pb_text_tree.specs.Form.{TermForm}
use Rattle.pb_protocol_tree.specs.Form.{ConstantForm, BoundsForm, ModelTextForm, DefinitionForm}
use Rattle.pb_protocol_tree.specs.Form.{ProtocolForm}
use Rattle.pb_protocol_typing.specs.Faults.{protocol_faults}
use Rattle.pb_protocol_constants.specs.Settled.{constants_alone, value_of, HasNumber}
use Rattle.pb_protocol_constants.specs.Hidden.{hidden_faults}

-- a bound as a definition behind all constants, whose name no constant has
abbrev pub bound_definition : Place → TermForm → DefinitionForm
bound_definition p x =
    record { name = record { place = p; text = codes "sort" }; parameters = []; term = x }

abbrev pub with_bound : ProtocolForm → Place → TermForm → ProtocolForm
with_bound m p x = record m { definitions = m.definitions ++ bound_definition p x ∷ [] }

-- it is a term over constants, and has a number
pub record IsBound (m : ProtocolForm) (p : Place) (x : TermForm) : Type 0 where
  pub rules : protocol_faults (with_bound m p x) ≡ []
  pub number : HasNumber m x

-- both are, and they are in order
pub record AreBounds (m : ProtocolForm) (b : BoundsForm) : Type 0 where
  pub low : IsBound m b.low_place b.low
  pub high : IsBound m b.high_place b.high
  pub order : int_le (value_of m b.low) (value_of m b.high) ≡ true

abbrev pub AreAllBounds : ProtocolForm → List BoundsForm → Type 0
AreAllBounds m bounds = All (AreBounds m) bounds

-- constants are definitions, none has a later name, and each has a number; and so have bounds
pub record KeepRules (cs : List ConstantForm) (bs : List BoundsForm) (m : ProtocolForm) : Type 0
  where
    pub definitions : protocol_faults (constants_alone cs) ≡ []
    pub names : hidden_faults (constants_alone cs).definitions m ≡ []
    pub values : All (λ (c : ConstantForm). HasNumber (constants_alone cs) c.value) cs
    pub bounds : AreAllBounds (constants_alone cs) bs

abbrev pub TextKeepsRules : ModelTextForm → Type 0
TextKeepsRules t = KeepRules t.constants t.bounds t.protocol
