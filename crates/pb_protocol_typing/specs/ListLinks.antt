-- The lists of variables of operands that are joined, link by link.
use Rattle.std.specs.Prelude.{List, flat_map}
use Rattle.pb_text_tree.specs.declared.term.TermLink.{TermLink}
use Rattle.pb_text_tree.specs.declared.term.ArithmeticLink.{ArithmeticLink}
use Rattle.pb_text_tree.specs.Form.{VariableForm, term_form}
use Rattle.pb_protocol_tree.specs.declared.formula.Link.{Link}
use Rattle.pb_protocol_tree.specs.Form.{formula_form}
use Rattle.pb_protocol_typing.specs.Lists.{term_lists, formula_lists}

abbrev pub link_lists : TermLink → List (List VariableForm)
link_lists link = term_lists (term_form link.operand)

abbrev pub links_lists : List TermLink → List (List VariableForm)
links_lists links = flat_map link_lists links

abbrev pub operation_lists : ArithmeticLink → List (List VariableForm)
operation_lists link = term_lists (term_form link.operand)

abbrev pub operations_lists : List ArithmeticLink → List (List VariableForm)
operations_lists links = flat_map operation_lists links

abbrev pub operand_lists : Link → List (List VariableForm)
operand_lists link = formula_lists (formula_form link.operand)

abbrev pub operands_lists : List Link → List (List VariableForm)
operands_lists links = flat_map operand_lists links
