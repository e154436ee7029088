-- The links of chains of formulas, as the functions read them.
use Rattle.std.specs.Prelude.{Option, Some, None}
use Rattle.pb_text_tree.specs.declared.place.Place.{Place}
use Rattle.pb_protocol_tree.specs.declared.formula.Link.{Link}
use Rattle.pb_protocol_tree.specs.Form.{FormulaForm, formula_form}
use Rattle.pb_protocol_negation.specs.Negated.{negated}

abbrev pub link_form : Link → Place × FormulaForm
link_form link = (link.place, formula_form link.operand)

-- a link to the operand's negation
abbrev pub negated_link : Place × FormulaForm → Place × FormulaForm
negated_link link = (link.0, negated link.1)

-- an operand with `!` in front of it where a `=>` stands behind it
abbrev pub antecedent : Option Place → FormulaForm → FormulaForm
antecedent None f = f
antecedent (Some p) f = FormulaForm.negation p f
