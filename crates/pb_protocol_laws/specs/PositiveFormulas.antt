-- Formulas of a protocol in which the body of each fixpoint is monotone: its variable stands there
-- under an even number of negations.
use Rattle.std.specs.Prelude.{◌≡◌, Bool, true, false, not, ⊤}
use Rattle.pb_text_meaning.specs.Syntax.{Name, same_name}
use Rattle.pb_protocol_meaning.specs.Syntax.{Formula}

-- Wherever X stands free, it is under an even number of negations where `even`, and else under an
-- odd number. The left side of => counts as one.
abbrev pub IsPositiveIn : Name → Bool → Formula → Type 0
IsPositiveIn X even (Formula.Truth b) = ⊤
IsPositiveIn X even (Formula.Data x) = ⊤
IsPositiveIn X even (Formula.Named Y) = same_name Y X ≡ true → even ≡ true
IsPositiveIn X even (Formula.Not f) = IsPositiveIn X (not even) f
IsPositiveIn X even (Formula.And f g) = IsPositiveIn X even f × IsPositiveIn X even g
IsPositiveIn X even (Formula.Or f g) = IsPositiveIn X even f × IsPositiveIn X even g
IsPositiveIn X even (Formula.Implies f g) = IsPositiveIn X (not even) f × IsPositiveIn X even g
IsPositiveIn X even (Formula.Box A f) = IsPositiveIn X even f
IsPositiveIn X even (Formula.Diamond A f) = IsPositiveIn X even f
IsPositiveIn X even (Formula.Fixpoint sign Y f) = same_name Y X ≡ false → IsPositiveIn X even f
IsPositiveIn X even (Formula.Quantified q xs f) = IsPositiveIn X even f

-- each fixpoint's variable is positive in its body
abbrev pub IsPositive : Formula → Type 0
IsPositive (Formula.Truth b) = ⊤
IsPositive (Formula.Data x) = ⊤
IsPositive (Formula.Named X) = ⊤
IsPositive (Formula.Not f) = IsPositive f
IsPositive (Formula.And f g) = IsPositive f × IsPositive g
IsPositive (Formula.Or f g) = IsPositive f × IsPositive g
IsPositive (Formula.Implies f g) = IsPositive f × IsPositive g
IsPositive (Formula.Box A f) = IsPositive f
IsPositive (Formula.Diamond A f) = IsPositive f
IsPositive (Formula.Fixpoint sign X f) = IsPositiveIn X true f × IsPositive f
IsPositive (Formula.Quantified q xs f) = IsPositive f
