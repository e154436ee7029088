-- What the negation says of a property.
use Rattle.std.specs.Prelude.{◌≡◌, true, false, not, List, []}
use Rattle.pb_model_meaning.specs.Satisfaction.{States}
use Rattle.pb_protocol_tree.specs.Form.{FormulaForm, ProtocolForm}
use Rattle.pb_protocol_meaning.specs.Syntax.{Formula, Property, Protocol}
use Rattle.pb_protocol_meaning.specs.Erase.{erase, erased_formula}
use Rattle.pb_protocol_meaning.specs.Satisfaction.{satisfies}
use Rattle.pb_protocol_unfolding.specs.Positive.{HasPositiveCalls}
use Rattle.pb_protocol_negation.specs.Negation.{negation, with_negations}
use Rattle.pb_protocol_negation.specs.Negated.{negated, negated_protocol}
use Rattle.pb_protocol_negation.specs.Verdict.{holds, fails, IsInvariant, IsClosed}

-- no protocol satisfies both a property and its negation
abbrev pub NeverBoth : Type 0
NeverBoth =
    (m : Protocol) (f : Formula) → HasPositiveCalls true f → holds m f ≡ true → fails m f ≡ false

-- where no step leaves the ranges from a state that is reached, it satisfies one of them
abbrev pub OneWithoutCuts : Type 0
OneWithoutCuts =
    (m : Protocol) (f : Formula) (S : States) → IsClosed [] f → IsInvariant m S →
    fails m f ≡ not (holds m f)

-- what is called in a property stands under an even number of negations in its negation too
abbrev pub NegationsArePositive : Type 0
NegationsArePositive =
    (f : Formula) → HasPositiveCalls true f → HasPositiveCalls true (negation f)

-- what a negated protocol says is the protocol with the negations
abbrev pub NegationsErase : Type 0
NegationsErase = (text : ProtocolForm) → erase (negated_protocol text) ≡ with_negations (erase text)

abbrev pub FormulasErase : Type 0
FormulasErase = (f : FormulaForm) → erased_formula (negated f) ≡ negation (erased_formula f)

-- what a protocol satisfies doesn't depend on its properties
abbrev pub SatisfactionIsKept : Type 0
SatisfactionIsKept =
    (m : Protocol) (properties : List Property) (f : Formula) →
    satisfies (record m { properties = properties }) f ≡ satisfies m f

-- so a property of a negated protocol is true exactly where that of the protocol fails
abbrev pub NegatedPropertiesTell : Type 0
NegatedPropertiesTell =
    (text : ProtocolForm) (f : FormulaForm) →
    satisfies (erase (negated_protocol text)) (erased_formula (negated f))
    ≡ fails (erase text) (erased_formula f)
