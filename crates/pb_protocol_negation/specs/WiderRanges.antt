-- What a property that fails says of wider ranges of the state variables.
use Rattle.std.specs.Prelude.{◌≡◌, true, false}
use Rattle.pb_model_meaning.specs.Syntax as flat
use Rattle.pb_model_wider_ranges.specs.Wider.{IsWider}
use Rattle.pb_protocol_unfolding.specs.Plain.{plain, plain_formula, FormulaCountsNothing, IsPlain}
use Rattle.pb_protocol_unfolding.specs.Positive.{HasPositiveCalls}
use Rattle.pb_protocol_negation.specs.Negation.{negation}
use Rattle.pb_protocol_negation.specs.Verdict.{holds, fails}

-- Where a property f of a plain protocol fails, it holds in no wider ranges: g is its negation.
-- Nothing counts there.
abbrev pub FailsInWiderRanges : Type 0
FailsInWiderRanges =
    (m w : flat.Model) (f g : flat.Formula) → IsPlain m → IsPlain w → FormulaCountsNothing g →
    plain_formula g ≡ negation (plain_formula f) → IsWider m w g →
    HasPositiveCalls true (plain_formula f) → fails (plain m) (plain_formula f) ≡ true →
    holds (plain w) (plain_formula f) ≡ false
