-- Where a property of a plain protocol fails, its negation is true in wider ranges too, so it doesn't hold there.
use Rattle.std.proofs.Common.{◌≡◌, Bool, true, false, true≢false, refl, sym, ap, subst, ◌∙◌}
use Rattle.pb_model_meaning.specs.Syntax as flat
use Rattle.pb_model_meaning.specs.Satisfaction as flat_satisfaction
use Rattle.pb_model_translation.specs.Positive as flat_positive
use Rattle.pb_model_wider_ranges.specs.Laws.{TrueStaysTrueInWiderRanges}
use Rattle.pb_protocol_meaning.specs.Syntax.{Formula}
use Rattle.pb_protocol_meaning.specs.Satisfaction.{satisfies}
use Rattle.pb_protocol_unfolding.specs.Plain.{plain, plain_formula, PlainModelsKeepTheirMeaning}
use Rattle.pb_protocol_unfolding.specs.Positive.{is_constant, HasPositiveCalls}
use Rattle.pb_protocol_negation.specs.Negation.{negation}
use Rattle.pb_protocol_negation.specs.WiderRanges.{FailsInWiderRanges}
use Rattle.pb_protocol_negation.proofs.NeverBoth.{never_both, negations_are_positive}

plain-constant : (f : flat.Formula) → flat_positive.is_constant f ≡ is_constant (plain_formula f)
plain-constant (flat.Formula.Truth b) = refl
plain-constant (flat.Formula.Data x) = refl
plain-constant (flat.Formula.Named X) = refl
plain-constant (flat.Formula.Not f) = refl
plain-constant (flat.Formula.And f g) = refl
plain-constant (flat.Formula.Or f g) = refl
plain-constant (flat.Formula.Implies f g) = refl
plain-constant (flat.Formula.Box A f) = refl
plain-constant (flat.Formula.Diamond A f) = refl
plain-constant (flat.Formula.Fixpoint sign X f) = refl

plain-positive : (f : flat.Formula) (even : Bool) → HasPositiveCalls even (plain_formula f) → flat_positive.HasPositiveCalls even f
plain-positive (flat.Formula.Truth b) even p = tt
plain-positive (flat.Formula.Data x) even p = tt
plain-positive (flat.Formula.Named X) even p = p
plain-positive (flat.Formula.Not f) even p = plain-positive f _ p
plain-positive (flat.Formula.And f g) even p = (plain-positive f even p.0, plain-positive g even p.1)
plain-positive (flat.Formula.Or f g) even p = (plain-positive f even p.0, plain-positive g even p.1)
plain-positive (flat.Formula.Implies f g) even p = (plain-positive f _ p.0, plain-positive g even p.1)
plain-positive (flat.Formula.Box A f) even p = ((λ e. p.0 (sym (plain-constant f) ∙ e)), plain-positive f true p.1)
plain-positive (flat.Formula.Diamond A f) even p = ((λ e. p.0 (sym (plain-constant f) ∙ e)), plain-positive f true p.1)
plain-positive (flat.Formula.Fixpoint sign X f) even p = (p.0, plain-positive f true p.1)

other-false : (x y : Bool) → (x ≡ true → y ≡ false) → y ≡ true → x ≡ false
other-false true y h e = absurd (true≢false (sym e ∙ h refl))
other-false false y h e = refl

pub fails_in_wider_ranges : PlainModelsKeepTheirMeaning → TrueStaysTrueInWiderRanges → FailsInWiderRanges
fails_in_wider_ranges means stays m w f g of_m of_w counts is_negation wider positive fails =
    let positive_g = plain-positive g true (subst (λ (x : Formula). HasPositiveCalls true x) (sym is_negation) (negations_are_positive (plain_formula f) positive)) in
    let in_m : flat_satisfaction.satisfies m g ≡ true = sym ((means m of_m).3 g counts) ∙ ap (satisfies (plain m)) is_negation ∙ fails in
    let in_w = stays m w g wider positive_g in_m in
    other-false (satisfies (plain w) (plain_formula f)) (satisfies (plain w) (negation (plain_formula f))) (never_both (plain w) (plain_formula f) positive)
    (sym (ap (satisfies (plain w)) is_negation) ∙ (means w of_w).3 g counts ∙ in_w)
