-- The links of chains of formulas and of unions of steps.
use Rattle.std.specs.Prelude.{Bool}
use Rattle.std.specs.List.{list_all}
use Rattle.pb_text_tree.specs.declared.place.Place.{Place}
use Rattle.pb_text_tree.specs.declared.term.TermLink.{TermLink}
use Rattle.pb_text_tree.specs.declared.term.ArithmeticLink.{ArithmeticLink}
use Rattle.pb_text_tree.specs.Form.{Named, TermForm, named, term_form, variable_forms}
use Rattle.pb_model_tree.specs.declared.formula.Link as flat_formula_link
use Rattle.pb_model_tree.specs.declared.step_set.StepSetLink as flat_step_set_link
use Rattle.pb_model_tree.specs.Form as flat
use Rattle.pb_protocol_tree.specs.declared.formula.Link.{Link}
use Rattle.pb_protocol_tree.specs.declared.step_set.StepSetLink.{StepSetLink}
use Rattle.pb_protocol_tree.specs.declared.protocol.StateVariable.{StateVariable}
use Rattle.pb_protocol_tree.specs.declared.protocol.StateVariables.{StateVariables}
use Rattle.pb_protocol_tree.specs.Form.{FormulaForm, StepSetForm, formula_form, step_set_form}
use Rattle.pb_protocol_unfolder.specs.Plain.{flat_formula_form, flat_set, has_no_variables}

abbrev pub link_form : Link → Place × FormulaForm
link_form link = (link.place, formula_form link.operand)

abbrev pub flat_link : flat_formula_link.Link → Place × flat.FormulaForm
flat_link link = (link.place, flat.formula_form link.operand)

abbrev pub linked : Place × FormulaForm → Place × flat.FormulaForm
linked link = (link.0, flat_formula_form link.1)

abbrev pub set_link_form : StepSetLink → Place × StepSetForm
set_link_form link = (link.place, step_set_form link.operand)

abbrev pub flat_set_link : flat_step_set_link.StepSetLink → Place × flat.StepSetForm
flat_set_link link = (link.place, flat.step_set_form link.operand)

abbrev pub set_linked : Place × StepSetForm → Place × flat.StepSetForm
set_linked link = (link.0, flat_set link.1)

-- a state variable's name
abbrev pub variable_name : StateVariable → Named
variable_name y = named y.name

-- what the operands of links say, in terms and in formulas
abbrev pub operand_form : TermLink → TermForm
operand_form link = term_form link.operand

abbrev pub operation_form : ArithmeticLink → TermForm
operation_form link = term_form link.operand

abbrev pub formula_operand : Link → FormulaForm
formula_operand link = formula_form link.operand

abbrev pub set_operand : StepSetLink → StepSetForm
set_operand link = step_set_form link.operand

abbrev pub has_no_indices : StateVariable → Bool
has_no_indices y = has_no_variables (variable_forms y.indices.items)

abbrev pub is_plain_group : StateVariables → Bool
is_plain_group group = list_all has_no_indices group.variables.items
