-- Formulas in which each predicate variable stands under an even number of negations.
use Rattle.std.specs.Prelude.{Bool, true, not, ◌≡◌, ⊤, List, [], ◌∷◌}
use Rattle.pb_text_meaning.specs.Syntax.{Formula, Equation}

-- each call stands under an even number of negations, where `even` says whether those around are
-- even; the left side of => counts as one
abbrev pub IsPositive : Bool → Formula → Type 0
IsPositive even (Formula.Truth b) = ⊤
IsPositive even (Formula.Val x) = ⊤
IsPositive even (Formula.Not f) = IsPositive (not even) f
IsPositive even (Formula.And f g) = IsPositive even f × IsPositive even g
IsPositive even (Formula.Or f g) = IsPositive even f × IsPositive even g
IsPositive even (Formula.Implies f g) = IsPositive (not even) f × IsPositive even g
IsPositive even (Formula.Quantified q xs f) = IsPositive even f
IsPositive even (Formula.Call X es) = even ≡ true

-- each right side is positive
abbrev pub ArePositive : List Equation → Type 0
ArePositive [] = ⊤
ArePositive (X ∷ E) = IsPositive true X.right × ArePositive E
