-- Where what is called stands under an even number of negations, fixpoints' variables do.
use Rattle.std.proofs.Common.{◌≡◌, Bool, true, false, true≢false, not, refl, sym, subst}
use Rattle.pb_text_meaning.specs.Syntax.{Name}
use Rattle.pb_protocol_meaning.specs.Syntax.{Formula}
use Rattle.pb_protocol_unfolding.specs.Positive.{HasPositiveCalls, is_constant}
use Rattle.pb_protocol_laws.specs.PositiveFormulas.{IsPositiveIn, IsPositive}

operand-positive-in : (X : Name) (even : Bool) (f : Formula) → (is_constant f ≡ false → even ≡ true) → IsPositiveIn X true f → IsPositiveIn X even f
operand-positive-in X true f h p = p
operand-positive-in X false (Formula.Truth b) h p = tt
operand-positive-in X false f h p = absurd (true≢false (sym (h refl)))

positive-in : (X : Name) (even : Bool) (f : Formula) → HasPositiveCalls even f → IsPositiveIn X even f
positive-in X even (Formula.Truth b) h = tt
positive-in X even (Formula.Data x) h = tt
positive-in X even (Formula.Named Y) h = λ e. h
positive-in X even (Formula.Not f) h = positive-in X (not even) f h
positive-in X even (Formula.And f g) h = (positive-in X even f h.0, positive-in X even g h.1)
positive-in X even (Formula.Or f g) h = (positive-in X even f h.0, positive-in X even g h.1)
positive-in X even (Formula.Implies f g) h = (positive-in X (not even) f h.0, positive-in X even g h.1)
positive-in X even (Formula.Box A f) h = operand-positive-in X even f h.0 (positive-in X true f h.1)
positive-in X even (Formula.Diamond A f) h = operand-positive-in X even f h.0 (positive-in X true f h.1)
positive-in X even (Formula.Fixpoint sign Y f) h = λ e. subst (λ (b : Bool). IsPositiveIn X b f) (sym h.0) (positive-in X true f h.1)
positive-in X even (Formula.Quantified q xs f) h = positive-in X even f h

pub calls-suffice : (even : Bool) (f : Formula) → HasPositiveCalls even f → IsPositive f
calls-suffice even (Formula.Truth b) h = tt
calls-suffice even (Formula.Data x) h = tt
calls-suffice even (Formula.Named Y) h = tt
calls-suffice even (Formula.Not f) h = calls-suffice (not even) f h
calls-suffice even (Formula.And f g) h = (calls-suffice even f h.0, calls-suffice even g h.1)
calls-suffice even (Formula.Or f g) h = (calls-suffice even f h.0, calls-suffice even g h.1)
calls-suffice even (Formula.Implies f g) h = (calls-suffice (not even) f h.0, calls-suffice even g h.1)
calls-suffice even (Formula.Box A f) h = calls-suffice true f h.1
calls-suffice even (Formula.Diamond A f) h = calls-suffice true f h.1
calls-suffice even (Formula.Fixpoint sign Y f) h = (positive-in Y true f h.1, calls-suffice true f h.1)
calls-suffice even (Formula.Quantified q xs f) h = calls-suffice even f h
