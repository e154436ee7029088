-- A verdict is final where no reached instance of the property's text calls one outside the ranges.
use Rattle.std.specs.Prelude.{◌≡◌, true, not, List, []}
use Rattle.pb_text_meaning.specs.Syntax.{Range, Spec}
use Rattle.pb_model_range_laws.specs.Calls.{StaysInRanges}
use Rattle.pb_protocol_meaning.specs.Syntax.{Formula, Protocol}
use Rattle.pb_protocol_meaning.specs.Steps.{data_of}
use Rattle.pb_protocol_unfolding.specs.Positive.{HasPositiveCalls}
use Rattle.pb_protocol_negation.specs.Verdict.{fails, holds, IsClosed}
use Rattle.pb_protocol_laws.specs.WiderProtocols.{in_ranges, WidensElements}
use Rattle.pb_protocol_range_laws.specs.Texts.{IsTextFor}

-- then the property or its negation is satisfied, and not both
abbrev pub NoCutMeansOne : Type 0
NoCutMeansOne =
    (m : Protocol) (f : Formula) (text : Spec) → IsTextFor m f text → IsClosed [] f →
    StaysInRanges text → fails m f ≡ not (holds m f)

-- and the answer, true or false, is the one in all wider ranges, and its negation's the opposite
abbrev pub VerdictsAreFinalWithoutCuts : Type 0
VerdictsAreFinalWithoutCuts =
    (m : Protocol) (f : Formula) (text : Spec) (ranges : List Range) → IsTextFor m f text →
    IsClosed [] f → HasPositiveCalls true f →
    WidensElements (data_of m) (data_of (in_ranges ranges m)) m f → StaysInRanges text →
    (holds (in_ranges ranges m) f ≡ holds m f) × (fails (in_ranges ranges m) f ≡ not (holds m f))
