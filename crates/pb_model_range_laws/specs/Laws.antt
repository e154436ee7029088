-- What no cut says of the negation.
use Rattle.std.specs.Prelude.{◌≡◌, ℕ, not, []}
use Rattle.pb_text_meaning.specs.Syntax.{Name}
use Rattle.pb_model_meaning.specs.Syntax.{Formula, Model}
use Rattle.pb_model_meaning.specs.Satisfaction.{satisfies}
use Rattle.pb_model_translation.specs.Translation.{translation_by}
use Rattle.pb_model_translation.specs.Apart.{HasNamesApart}
use Rattle.pb_model_range_laws.specs.Calls.{StaysInRanges}
use Rattle.pb_model_range_laws.specs.Negation.{IsNegation, IsBound}

-- where no reached instance of the text of f calls one outside the ranges, the model satisfies f or
-- its negation, and not both
abbrev pub NegationsDecideWithoutCuts : Type 0
NegationsDecideWithoutCuts =
    (m : Model) (names : ℕ → Name) (f g : Formula) → HasNamesApart m → IsNegation f g →
    IsBound [] f → StaysInRanges (translation_by m names f) → satisfies m g ≡ not (satisfies m f)
