-- The negation of a formula, in which `!` stands only in front of data and of what had it already:
-- connectives, modalities, quantifiers and fixpoints become their duals (Bradfield and Stirling
-- 2007). So a successor outside the ranges, which satisfies `true` and no other formula, satisfies
-- neither a formula that isn't constant nor its negation (Bruns and Godefroid 1999).
use Rattle.std.specs.Prelude.{not, map}
use Rattle.pb_protocol_meaning.specs.Syntax.{Formula, Property, Protocol}
use Rattle.pb_protocol_negation.specs.Dual.{dual_sign, dual_quantifier}

abbrev pub negation : Formula → Formula
negation (Formula.Truth b) = Formula.Truth (not b)
negation (Formula.Data x) = Formula.Not (Formula.Data x)
negation (Formula.Named X) = Formula.Named X
negation (Formula.Not f) = Formula.Not (negation f)
negation (Formula.And f g) = Formula.Or (negation f) (negation g)
negation (Formula.Or f g) = Formula.And (negation f) (negation g)
negation (Formula.Implies f g) = Formula.And (Formula.Not (negation f)) (negation g)
negation (Formula.Box A f) = Formula.Diamond A (negation f)
negation (Formula.Diamond A f) = Formula.Box A (negation f)
negation (Formula.Fixpoint sign X f) = Formula.Fixpoint (dual_sign sign) X (negation f)
negation (Formula.Quantified q xs f) = Formula.Quantified (dual_quantifier q) xs (negation f)

-- the protocol with the negation of each of its properties, by the same name
abbrev pub negation_of : Property → Property
negation_of p = record p { formula = negation p.formula }

abbrev pub with_negations : Protocol → Protocol
with_negations m = record m { properties = map negation_of m.properties }
