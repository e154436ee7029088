-- The parts of a syntax tree as the formulas that they are read as.
use Rattle.std.specs.Prelude.{List, map}
use Rattle.pb_text_tree.specs.declared.operator.Connective.{Connective}
use Rattle.pb_text_tree.specs.declared.term.Term as ast
use Rattle.pb_text_tree.specs.declared.term.TermLink.{TermLink}
use Rattle.pb_text_tree.specs.declared.formula.Formula as predicate
use Rattle.pb_text_tree.specs.Form.{TermForm, chained, formula_form, term_form, term_links}
use Rattle.pb_text_meaning.specs.Syntax.{Term, Formula}
use Rattle.pb_text_meaning.specs.Erase.{erased_formula, erased_term}
use Rattle.pb_typing_tree.specs.Expansion.{expanded, expanded_term}

-- a data term of kind Bool
abbrev pub as_value : ast.Term → Formula
as_value x = expanded_term (erased_term (term_form x))

-- operands of one connective in data
abbrev pub chain_of : Connective → ast.Term → List TermLink → Term
chain_of o first links =
    erased_term (chained (TermForm.connected o) (term_form first) (term_links links))

-- those behind the first, one by one
abbrev pub operand_terms : List TermLink → List Term
operand_terms links = map (λ (link : TermLink). erased_term (term_form link.operand)) links

abbrev pub formula_of : predicate.Formula → Formula
formula_of f = expanded (erased_formula (formula_form f))
