-- The names of variables of operands that are joined, link by link.
use Rattle.std.specs.Prelude.{List, flat_map}
use Rattle.pb_text_tree.specs.declared.term.TermLink.{TermLink}
use Rattle.pb_text_tree.specs.declared.term.ArithmeticLink.{ArithmeticLink}
use Rattle.pb_text_tree.specs.Form.{Named, term_form}
use Rattle.pb_model_tree.specs.declared.formula.Link.{Link}
use Rattle.pb_model_tree.specs.Form.{formula_form}
use Rattle.pb_protocol_groups.specs.Bound.{bound_names, formula_bound_names}

abbrev pub link_bound_names : TermLink → List Named
link_bound_names link = bound_names (term_form link.operand)

abbrev pub links_bound_names : List TermLink → List Named
links_bound_names links = flat_map link_bound_names links

abbrev pub operation_bound_names : ArithmeticLink → List Named
operation_bound_names link = bound_names (term_form link.operand)

abbrev pub operations_bound_names : List ArithmeticLink → List Named
operations_bound_names links = flat_map operation_bound_names links

abbrev pub operand_bound_names : Link → List Named
operand_bound_names link = formula_bound_names (formula_form link.operand)

abbrev pub operands_bound_names : List Link → List Named
operands_bound_names links = flat_map operand_bound_names links
