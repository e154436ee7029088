-- What the code's own values say, in the words of the definitions.
use Rattle.std.specs.Prelude.{Bool, not, ◌&&◌, List, map, flat_map, string_bytes}
use Rattle.std.specs.Borrow.{Bor}
use Rattle.pb_text_tree.specs.declared.name.Name as declared_name
use Rattle.pb_text_tree.specs.declared.operator.Arithmetic.{Arithmetic}
use Rattle.pb_text_tree.specs.declared.term.TermLink.{TermLink}
use Rattle.pb_text_tree.specs.declared.term.ArithmeticLink.{ArithmeticLink}
use Rattle.pb_text_tree.specs.declared.variable.Variables as declared_variables
use Rattle.pb_text_meaning.specs.Syntax.{Name}
use Rattle.pb_text_meaning.specs.Erase.{of_arithmetic}
use Rattle.pb_protocol_folding.specs.View.{term_of}
use Rattle.pb_protocol_tree.specs.declared.formula.Link.{Link}
use Rattle.pb_protocol_tree.specs.declared.step_set.StepSetLink.{StepSetLink}
use Rattle.pb_protocol_tree.specs.Form.{formula_form, step_set_form}
use Rattle.pb_protocol_meaning.specs.Erase.{erased_formula, erased_steps}
use Rattle.pb_protocol_unfolding.specs.Whole.{is_data, is_division, valued_in, valued_in_set}

-- ---- names

abbrev pub name_bytes : declared_name.Name → Name
name_bytes n = string_bytes n.text

abbrev pub name_in : Bor declared_name.Name → Name
name_in n = name_bytes n.now

-- those of a group of variables
abbrev pub names_in : declared_variables.Variables → List Name
names_in group = map name_bytes group.names.items

-- ---- terms

abbrev pub divides : Arithmetic → Bool
divides o = is_division (of_arithmetic o)

-- names stand in an operand of a chain as data alone
abbrev pub is_data_link : List Name → Bool → TermLink → Bool
is_data_link own free link = is_data own free (term_of link.operand)

abbrev pub is_data_operation : List Name → Bool → ArithmeticLink → Bool
is_data_operation own free link =
    is_data own (free && not (divides link.operator)) (term_of link.operand)

-- ---- sets of steps and formulas

-- the names of the steps that operands of a chain name by values
abbrev pub valued_in_set_link : StepSetLink → List Name
valued_in_set_link link = valued_in_set (erased_steps (step_set_form link.operand))

abbrev pub valued_in_set_links : List StepSetLink → List Name
valued_in_set_links links = flat_map valued_in_set_link links

abbrev pub valued_in_link : Link → List Name
valued_in_link link = valued_in (erased_formula (formula_form link.operand))

abbrev pub valued_in_links : List Link → List Name
valued_in_links links = flat_map valued_in_link links
