-- What the fault of constants and bounds says.
use Rattle.std.specs.Prelude.{◌≡◌, ◌⊎◌, ℕ, false, int_le, List, [], map}
use Rattle.std.specs.Prelude.{Contains, Some, None}
use Rattle.std.specs.List.{slice_get}
use Rattle.pb_text_tree.specs.declared.place.Place.{Place}
use Rattle.pb_text_tree.specs.Form.{TermForm}
use Rattle.pb_typing_declarations.specs.declared.fault.TypingFault.{TypingFault}
use Rattle.pb_typing_declarations.specs.declared.fault.TypingRule.{TypingRule}
use Rattle.pb_typing_declarations.specs.declared.fault.TypingRule.TheVariants as rule
use Rattle.pb_protocol_tree.specs.Form.{ConstantForm, BoundsForm, ModelTextForm, DefinitionForm}
use Rattle.pb_protocol_tree.specs.Form.{ProtocolForm}
use Rattle.pb_protocol_typing.specs.Faults.{protocol_faults}
use Rattle.pb_protocol_unfolder_terms.specs.declared.fault.UnfoldFault.{UnfoldFault}
use Rattle.pb_protocol_unfolder_terms.specs.TermFaults.{IsFaultAt, IsFaultInTerm}
use Rattle.pb_protocol_unfolder_terms.specs.TermFaults.{surroundings_at_start}
use Rattle.pb_protocol_constants.specs.declared.fault.ConstantsFault.{ConstantsFault}
use Rattle.pb_protocol_constants.specs.declared.fault.ConstantsFault.TheVariants as fault
use Rattle.pb_protocol_constants.specs.Settled.{constants_alone, number_in}
use Rattle.pb_protocol_constants.specs.Settled.{place_of_constant, unfolded_value, value_of}
use Rattle.pb_protocol_constants.specs.Rules.{with_bound}
use Rattle.pb_protocol_constants.specs.Hidden.{hidden_faults}

abbrev pub typing_fault : TypingRule → Place → ConstantsFault
typing_fault r p = fault.Typing (record { rule = r; place = p })

abbrev pub IsOfTerm : UnfoldFault → ConstantsFault → Type 0
IsOfTerm f above = above ≡ fault.Term f

-- it is one of these
abbrev pub IsTypingFaultIn : List TypingFault → ConstantsFault → Type 0
IsTypingFaultIn faults (fault.Typing f) = Contains faults f
IsTypingFaultIn faults (fault.Term f) = ⊥

-- ---- values

-- a term over constants, unfolded, isn't written as a number of 32 bits
abbrev pub HasNoNumber : ProtocolForm → TermForm → Type 0
HasNoNumber m x = number_in (unfolded_value m x) ≡ None

-- then T04 stands at its first token; or it isn't unfolded
abbrev pub IsValueFault : ProtocolForm → Place → TermForm → ConstantsFault → Type 0
IsValueFault m p x (fault.Typing f) =
    (f ≡ record { rule = rule.WrongKind; place = p }) × HasNoNumber m x
IsValueFault m p x (fault.Term f) = IsFaultAt (IsFaultInTerm (surroundings_at_start m) [] x) f

abbrev pub IsConstantFault : ProtocolForm → Place → DefinitionForm → ConstantsFault → Type 0
IsConstantFault m p d = IsValueFault m p d.term

-- the value of one of the definitions, which stands at the place beside
abbrev pub IsConstantsFault : ProtocolForm → List Place → ConstantsFault → Type 0
IsConstantsFault m ps error =
    (k : ℕ) × (d : DefinitionForm) × (p : Place) × (slice_get m.definitions k ≡ Some d)
    × (slice_get ps k ≡ Some p) × IsConstantFault m p d error

-- ---- bounds

-- a rule fails in it, or it has no number
abbrev pub IsBoundFault : ProtocolForm → Place → TermForm → ConstantsFault → Type 0
IsBoundFault m p x error =
    IsTypingFaultIn (protocol_faults (with_bound m p x)) error ⊎ IsValueFault m p x error

-- of one of two bounds, or T11: they aren't in order
abbrev pub IsBoundsFault : ProtocolForm → BoundsForm → ConstantsFault → Type 0
IsBoundsFault m b error =
    IsBoundFault m b.low_place b.low error ⊎ (IsBoundFault m b.high_place b.high error
    ⊎ ((error ≡ typing_fault rule.OutsideCarrier b.low_place)
    × (int_le (value_of m b.low) (value_of m b.high) ≡ false)))

abbrev pub IsFaultOfSome :
    {X : Type 0} → (X → ConstantsFault → Type 0) → List X → ConstantsFault → Type 0
IsFaultOfSome P xs error = (x : _) × Contains xs x × P x error

-- ---- all

-- of the constants as definitions, of names that are theirs too, of values and of bounds
abbrev pub IsSettlingFault :
    List ConstantForm → List BoundsForm → ProtocolForm → ConstantsFault → Type 0
IsSettlingFault cs bounds m error =
    IsTypingFaultIn (protocol_faults (constants_alone cs)) error
    ⊎ (IsTypingFaultIn (hidden_faults (constants_alone cs).definitions m) error
    ⊎ (IsConstantsFault (constants_alone cs) (map place_of_constant cs) error
    ⊎ IsFaultOfSome (IsBoundsFault (constants_alone cs)) bounds error))

abbrev pub IsFaultOfText : ModelTextForm → ConstantsFault → Type 0
IsFaultOfText t = IsSettlingFault t.constants t.bounds t.protocol
