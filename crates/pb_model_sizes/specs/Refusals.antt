-- The lines for the model that bytes say, and what a fault says of it.
use Rattle.std.specs.Prelude.{ℕ, ◌≡◌, ◌⊎◌, false, List, [], Option, Contains}
use Rattle.pb_text_meaning.specs.Syntax.{Name}
use Rattle.pb_text_meaning.specs.Erase as texts
use Rattle.pb_protocol_tree.specs.Form.{ProtocolForm}
use Rattle.pb_protocol_typing.specs.Faults.{data_form}
use Rattle.pb_model_faults.specs.declared.ModelFault.{ModelFault}
use Rattle.pb_model_faults.specs.declared.ModelFault.TheVariants as model_fault
use Rattle.pb_model_properties.specs.Said.{IsTheReading}
use Rattle.pb_model_properties.specs.Refusals.{IsUnread}
use Rattle.pb_model_sizes.specs.Sizes.{is_known, size_lines}
use Rattle.pb_model_sizes.specs.Sorts.{size_faults}

-- the lines for a protocol, by its own sorts and ranges
abbrev pub sizes_of : Option Name → ProtocolForm → List ℕ
sizes_of name text = size_lines (texts.erase (data_form text)) name text

-- the protocol breaks a rule, also that of the sorts of its state, or has no property of the name
abbrev pub IsUnsizedProtocol : Option Name → ProtocolForm → ModelFault → Type 0
IsUnsizedProtocol name text (model_fault.Text fault) = ⊥
IsUnsizedProtocol name text (model_fault.Typing fault) = Contains (size_faults text) fault
IsUnsizedProtocol name text model_fault.NoProperty =
    (size_faults text ≡ []) × (is_known name text.properties ≡ false)

-- ---- bytes

-- they say a protocol that keeps all rules, and these are its lines
abbrev pub AreSizesOf : Option Name → List ℕ → List ℕ → Type 0
AreSizesOf name bytes lines =
    (text : ProtocolForm) × IsTheReading bytes text × (size_faults text ≡ [])
    × (lines ≡ sizes_of name text)

-- they say a protocol of which this is said
abbrev pub SayUnsized : Option Name → List ℕ → ModelFault → Type 0
SayUnsized name bytes fault =
    (text : ProtocolForm) × IsTheReading bytes text × IsUnsizedProtocol name text fault

-- they say no protocol, for this fault, or one that is refused for it
abbrev pub IsUnsized : Option Name → List ℕ → ModelFault → Type 0
IsUnsized name bytes fault = IsUnread bytes fault ⊎ SayUnsized name bytes fault
