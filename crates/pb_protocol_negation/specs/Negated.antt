-- The same of a protocol as it is written, places kept. A `!` that is put in front of an operand
-- stands where the operand begins, if that is data, or at the `=>` behind it.
use Rattle.std.specs.Prelude.{not, map}
use Rattle.pb_text_tree.specs.declared.place.Place.{Place}
use Rattle.pb_text_tree.specs.declared.operator.Connective.{Connective}
use Rattle.pb_text_tree.specs.declared.operator.Connective.TheVariants as connective
use Rattle.pb_protocol_tree.specs.Form.{FormulaForm, PropertyForm, ProtocolForm}
use Rattle.pb_protocol_negation.specs.Dual.{dual_sign, dual_quantifier, dual_modality}

-- of the negations of two operands
abbrev pub negated_connection : Connective → Place → FormulaForm → FormulaForm → FormulaForm
negated_connection connective.And p f g = FormulaForm.connected connective.Or p f g
negated_connection connective.Or p f g = FormulaForm.connected connective.And p f g
negated_connection connective.Implies p f g =
    FormulaForm.connected connective.And p (FormulaForm.negation p f) g

abbrev pub negated : FormulaForm → FormulaForm
negated (FormulaForm.constant p b) = FormulaForm.constant p (not b)
negated (FormulaForm.«data» p x) = FormulaForm.negation p (FormulaForm.«data» p x)
negated (FormulaForm.variable x) = FormulaForm.variable x
negated (FormulaForm.negation p f) = FormulaForm.negation p (negated f)
negated (FormulaForm.connected c p f g) = negated_connection c p (negated f) (negated g)
negated (FormulaForm.modal k p A f) = FormulaForm.modal (dual_modality k) p A (negated f)
negated (FormulaForm.fixpoint sign p x f) =
    FormulaForm.fixpoint (dual_sign sign) p x (negated f)
negated (FormulaForm.quantified q p xs f) =
    FormulaForm.quantified (dual_quantifier q) p xs (negated f)

abbrev pub negated_property : PropertyForm → PropertyForm
negated_property p = record p { formula = negated p.formula }

-- each property's formula is negated, by the same name at the same place; all else is kept
abbrev pub negated_protocol : ProtocolForm → ProtocolForm
negated_protocol text = record text { properties = map negated_property text.properties }
