-- The set of a variable that isn't the one that gets another set.
use Rattle.std.proofs.Common.{◌≡◌, Bool, true, false, true≢false, if◌then◌else◌, refl}
use Rattle.pb_text_meaning.specs.Syntax.{Name, same_name}
use Rattle.pb_model_meaning.specs.Satisfaction.{States, Valuation, with_set}

pub with-other : (ρ : Valuation) (Y X : Name) (U : States) → same_name Y X ≡ false → with_set ρ Y U X ≡ ρ X
with-other ρ Y X U apart = by (same_name Y X) apart
  where
    by : (b : Bool) → b ≡ false → (if b then U else ρ X) ≡ ρ X
    by true e = absurd (true≢false e)
    by false e = refl
