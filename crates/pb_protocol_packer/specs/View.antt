-- What the program's trees and tables say, without places.
use Rattle.std.specs.Prelude.{Bool, false, ◌&&◌, List, [], ◌∷◌, map, string_bytes}
use Rattle.pb_text_tree.specs.declared.name.Name as declared_name
use Rattle.pb_text_tree.specs.declared.term.Term as tree
use Rattle.pb_text_tree.specs.declared.term.TermLink.{TermLink}
use Rattle.pb_text_tree.specs.declared.term.ArithmeticLink.{ArithmeticLink}
use Rattle.pb_text_tree.specs.declared.term.Argument.{Argument}
use Rattle.pb_text_tree.specs.declared.variable.Variables.{Variables}
use Rattle.pb_text_tree.specs.Form.{term_form, variable_forms}
use Rattle.pb_text_meaning.specs.Syntax.{Name, Variable, Operator, Term, Terms}
use Rattle.pb_protocol_packing.specs.Numbers.{either, place_number}
use Rattle.pb_text_meaning.specs.Erase.{erased_term, erased_variables, of_arithmetic}

-- ---- terms

abbrev pub term_of : tree.Term → Term
term_of t = erased_term (term_form t)

-- the operands of a chain's links, in order
abbrev pub operand_of : TermLink → Term
operand_of link = term_of link.operand

abbrev pub operands_of : List TermLink → List Term
operands_of = map operand_of

-- and those of arithmetic, each with its operator
abbrev pub operation_of : ArithmeticLink → Operator × Term
operation_of link = (of_arithmetic link.operator, term_of link.operand)

abbrev pub operations_of : List ArithmeticLink → List (Operator × Term)
operations_of = map operation_of

abbrev pub terms_of : List Argument → Terms
terms_of [] = Terms.NoTerms
terms_of (a ∷ arguments) = Terms.Then (term_of a.term) (terms_of arguments)

-- operands of one connective, read to the right
abbrev pub joined_terms : Operator → Term → List Term → Term
joined_terms o x [] = x
joined_terms o x (y ∷ ys) = Term.Binary o x (joined_terms o y ys)

-- operands of arithmetic, read to the left
abbrev pub calculated_terms : Term → List (Operator × Term) → Term
calculated_terms x [] = x
calculated_terms x (o ∷ os) = calculated_terms (Term.Binary o.0 x o.1) os

-- ---- names and variables

abbrev pub name_bytes : declared_name.Name → Name
name_bytes n = string_bytes n.text

abbrev pub texts_of : List declared_name.Name → List Name
texts_of = map name_bytes

abbrev pub variables_in : List Variables → List Variable
variables_in groups = erased_variables (variable_forms groups)

-- a test of both terms that `if` chooses from
abbrev pub chooses : (Term → Bool) → Terms → Bool
chooses test (Terms.Then x (Terms.Then y (Terms.Then z Terms.NoTerms))) = test y && test z
chooses test xs = false

-- the place that `if` chooses as it chooses the enumerator
abbrev pub chosen_place : List Name → Terms → Term
chosen_place es (Terms.Then x (Terms.Then y (Terms.Then z Terms.NoTerms))) =
    either x (place_number es y) (place_number es z)
chosen_place es xs = Term.Truth false
