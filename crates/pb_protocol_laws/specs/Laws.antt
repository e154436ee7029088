-- What holds of a protocol that keeps the rules, as the laws of unfolding want it.
use Rattle.std.specs.Prelude.{◌≡◌, true, [], map, All}
use Rattle.pb_model_meaning.specs.Syntax.{Model}
use Rattle.pb_protocol_tree.specs.Form.{ProtocolForm}
use Rattle.pb_protocol_meaning.specs.Syntax.{StateVariable, Property}
use Rattle.pb_protocol_meaning.specs.Erase.{erase}
use Rattle.pb_protocol_folding.specs.Names.{AreDistinct, enumerators_in}
use Rattle.pb_protocol_unfolding.specs.Plain.{plain, IsPlain, ModelCountsNothing}
use Rattle.pb_protocol_unfolding.specs.Positive.{HasPositiveCalls}
use Rattle.pb_protocol_typing.specs.Faults.{protocol_faults}

-- no two enumerators have one name
abbrev pub EnumeratorsAreApart : Type 0
EnumeratorsAreApart =
    (text : ProtocolForm) → protocol_faults text ≡ [] →
    AreDistinct (enumerators_in (erase text).sorts)

-- no two state variables have one name
abbrev pub StateVariablesAreApart : Type 0
StateVariablesAreApart =
    (text : ProtocolForm) → protocol_faults text ≡ [] →
    AreDistinct (map (λ (y : StateVariable). y.name) (erase text).variables)

-- what is called in its properties stands under an even number of negations
abbrev pub CallsArePositive : Type 0
CallsArePositive =
    (text : ProtocolForm) → protocol_faults text ≡ [] →
    All (λ (p : Property). HasPositiveCalls true p.formula) (erase text).properties

-- The model that a plain protocol is, in which nothing counts, has names of variables apart, steps
-- that assign none of them twice, and an initial term for each.
abbrev pub PlainProtocolsArePlain : Type 0
PlainProtocolsArePlain =
    (text : ProtocolForm) (m : Model) → protocol_faults text ≡ [] → erase text ≡ plain m →
    ModelCountsNothing m → IsPlain m
