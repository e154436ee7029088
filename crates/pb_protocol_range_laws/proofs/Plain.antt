-- The negation of a formula of a model's, which is the one of the protocol that the model is.
use Rattle.std.proofs.Common.{◌≡◌, not, List, ◌∷◌, inl, refl, ap, ◌∙◌}
use Rattle.pb_fixpoint.specs.declared.Sign.{Sign}
use Rattle.pb_fixpoint.specs.declared.Sign.TheVariants.{Mu, Nu}
use Rattle.pb_text_meaning.specs.Syntax.{Name}
use Rattle.pb_model_meaning.specs.Syntax.{Formula}
use Rattle.pb_model_range_laws.specs.Negation.{IsBound, IsNegation, IsOtherSign}
use Rattle.pb_protocol_meaning.specs.Syntax as protocol
use Rattle.pb_protocol_unfolding.specs.Plain.{plain_formula, plain_set, FormulaCountsNothing}
use Rattle.pb_protocol_negation.specs.Dual.{dual_sign}
use Rattle.pb_protocol_negation.specs.Negation.{negation}
use Rattle.pb_protocol_negation.specs.Verdict as verdict

abbrev pub dual : Formula → Formula
dual (Formula.Truth b) = Formula.Truth (not b)
dual (Formula.Data x) = Formula.Not (Formula.Data x)
dual (Formula.Named X) = Formula.Named X
dual (Formula.Not f) = Formula.Not (dual f)
dual (Formula.And f g) = Formula.Or (dual f) (dual g)
dual (Formula.Or f g) = Formula.And (dual f) (dual g)
dual (Formula.Implies f g) = Formula.And (Formula.Not (dual f)) (dual g)
dual (Formula.Box A f) = Formula.Diamond A (dual f)
dual (Formula.Diamond A f) = Formula.Box A (dual f)
dual (Formula.Fixpoint sign X f) = Formula.Fixpoint (dual_sign sign) X (dual f)

pub other-sign : (sign : Sign) → IsOtherSign sign (dual_sign sign)
other-sign Mu = refl
other-sign Nu = refl

pub is-dual : (f : Formula) → IsNegation f (dual f)
is-dual (Formula.Truth b) = refl
is-dual (Formula.Data x) = inl refl
is-dual (Formula.Named X) = refl
is-dual (Formula.Not f) = (dual f, refl, is-dual f)
is-dual (Formula.And f g) = (dual f, dual g, refl, is-dual f, is-dual g)
is-dual (Formula.Or f g) = (dual f, dual g, refl, is-dual f, is-dual g)
is-dual (Formula.Implies f g) = (Formula.Not (dual f), dual g, refl, inl (dual f, refl, is-dual f), is-dual g)
is-dual (Formula.Box A f) = (dual f, refl, is-dual f)
is-dual (Formula.Diamond A f) = (dual f, refl, is-dual f)
is-dual (Formula.Fixpoint sign X f) = (dual_sign sign, dual f, other-sign sign, refl, is-dual f)

pub dual-counts : (f : Formula) → FormulaCountsNothing f → FormulaCountsNothing (dual f)
dual-counts (Formula.Truth b) h = tt
dual-counts (Formula.Data x) h = h
dual-counts (Formula.Named X) h = tt
dual-counts (Formula.Not f) h = dual-counts f h
dual-counts (Formula.And f g) h = (dual-counts f h.0, dual-counts g h.1)
dual-counts (Formula.Or f g) h = (dual-counts f h.0, dual-counts g h.1)
dual-counts (Formula.Implies f g) h = (dual-counts f h.0, dual-counts g h.1)
dual-counts (Formula.Box A f) h = dual-counts f h
dual-counts (Formula.Diamond A f) h = dual-counts f h
dual-counts (Formula.Fixpoint sign X f) h = dual-counts f h

both : (c : protocol.Formula → protocol.Formula → protocol.Formula) (a b x y : protocol.Formula) → a ≡ x → b ≡ y → c a b ≡ c x y
both c a b x y e k = ap (λ z. c z b) e ∙ ap (c x) k

pub plain-dual : (f : Formula) → plain_formula (dual f) ≡ negation (plain_formula f)
plain-dual (Formula.Truth b) = refl
plain-dual (Formula.Data x) = refl
plain-dual (Formula.Named X) = refl
plain-dual (Formula.Not f) = ap protocol.Formula.Not (plain-dual f)
plain-dual (Formula.And f g) = both (λ x y. protocol.Formula.Or x y) _ _ _ _ (plain-dual f) (plain-dual g)
plain-dual (Formula.Or f g) = both (λ x y. protocol.Formula.And x y) _ _ _ _ (plain-dual f) (plain-dual g)
plain-dual (Formula.Implies f g) = both (λ x y. protocol.Formula.And (protocol.Formula.Not x) y) _ _ _ _ (plain-dual f) (plain-dual g)
plain-dual (Formula.Box A f) = ap (protocol.Formula.Diamond (plain_set A)) (plain-dual f)
plain-dual (Formula.Diamond A f) = ap (protocol.Formula.Box (plain_set A)) (plain-dual f)
plain-dual (Formula.Fixpoint sign X f) = ap (protocol.Formula.Fixpoint (dual_sign sign) X) (plain-dual f)

pub plain-closed : (f : Formula) (bound : List Name) → verdict.IsClosed bound (plain_formula f) → IsBound bound f
plain-closed (Formula.Truth b) bound h = tt
plain-closed (Formula.Data x) bound h = tt
plain-closed (Formula.Named X) bound h = h
plain-closed (Formula.Not f) bound h = plain-closed f bound h
plain-closed (Formula.And f g) bound h = (plain-closed f bound h.0, plain-closed g bound h.1)
plain-closed (Formula.Or f g) bound h = (plain-closed f bound h.0, plain-closed g bound h.1)
plain-closed (Formula.Implies f g) bound h = (plain-closed f bound h.0, plain-closed g bound h.1)
plain-closed (Formula.Box A f) bound h = plain-closed f bound h
plain-closed (Formula.Diamond A f) bound h = plain-closed f bound h
plain-closed (Formula.Fixpoint sign X f) bound h = plain-closed f (X ∷ bound) h
