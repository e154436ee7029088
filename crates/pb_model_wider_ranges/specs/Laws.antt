-- What a verdict says of the model with wider ranges.
use Rattle.std.specs.Prelude.{◌≡◌, true}
use Rattle.pb_model_meaning.specs.Syntax.{Formula, Model}
use Rattle.pb_model_meaning.specs.Satisfaction.{States, satisfies}
use Rattle.pb_model_meaning.specs.Positive.{IsPositive}
use Rattle.pb_model_translation.specs.Positive.{HasPositiveCalls}
use Rattle.pb_model_wider_ranges.specs.Wider.{IsWider, IsInvariant}

-- a formula that is true stays true, where under a negation there is nothing but tests and
-- modalities over `true` and `false`
abbrev pub TrueStaysTrueInWiderRanges : Type 0
TrueStaysTrueInWiderRanges =
    (m w : Model) (f : Formula) → IsWider m w f → HasPositiveCalls true f →
    satisfies m f ≡ true → satisfies w f ≡ true

-- where the steps stay in the ranges, the verdicts are the same
abbrev pub SameWithoutCuts : Type 0
SameWithoutCuts =
    (m w : Model) (f : Formula) (S : States) → IsWider m w f → IsPositive f → IsInvariant m S →
    satisfies w f ≡ satisfies m f
