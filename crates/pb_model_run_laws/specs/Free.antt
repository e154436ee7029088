-- Which variables a formula speaks of. That a variable isn't free in it is what the laws of
-- fixpoints ask of the formulas within: their truth doesn't hang on its set.
use Rattle.std.specs.Prelude.{◌≡◌, Bool, false, not, ◌&&◌, ◌||◌}
use Rattle.pb_text_meaning.specs.Syntax.{Name, same_name}
use Rattle.pb_model_meaning.specs.Syntax.{Formula, Model}
use Rattle.pb_model_meaning.specs.Satisfaction.{Valuation}
use Rattle.pb_model_runs.specs.Always.{IsWithout}

-- X stands in the formula, and in no fixpoint of X
abbrev pub is_free : Name → Formula → Bool
is_free X (Formula.Truth b) = false
is_free X (Formula.Data x) = false
is_free X (Formula.Named Y) = same_name Y X
is_free X (Formula.Not f) = is_free X f
is_free X (Formula.And f g) = is_free X f || is_free X g
is_free X (Formula.Or f g) = is_free X f || is_free X g
is_free X (Formula.Implies f g) = is_free X f || is_free X g
is_free X (Formula.Box A f) = is_free X f
is_free X (Formula.Diamond A f) = is_free X f
is_free X (Formula.Fixpoint sign Y f) = not (same_name Y X) && is_free X f

-- the truth of a formula in which X isn't free doesn't hang on the set of X
abbrev pub NotFreeIsWithout : Type 0
NotFreeIsWithout =
    (m : Model) (ρ : Valuation) (X : Name) (f : Formula) → is_free X f ≡ false → IsWithout m ρ X f
