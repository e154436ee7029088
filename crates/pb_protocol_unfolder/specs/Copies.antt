-- Copies of a quantified formula, and data terms, unfolded and folded.
use Rattle.std.specs.Prelude.{ℕ, suc, List, map, Vec}
use Rattle.std.specs.declared.alloc.Global.{Global}
use Rattle.pb_text_tree.specs.declared.term.Term as declared_term
use Rattle.pb_text_meaning.specs.Syntax.{Term, Variable}
use Rattle.pb_model_meaning.specs.Syntax as flat
use Rattle.pb_protocol_tree.specs.declared.formula.Formula.{Formula}
use Rattle.pb_protocol_tree.specs.declared.formula.Link.{Link}
use Rattle.pb_protocol_tree.specs.Form.{FormulaForm, formula_form}
use Rattle.pb_protocol_meaning.specs.Erase.{erased_formula}
use Rattle.pb_protocol_meaning.specs.Syntax as syntax
use Rattle.pb_protocol_meaning.specs.Steps.{data_of}
use Rattle.pb_protocol_folding.specs.FoldedModels.{folded_property_formula}
use Rattle.pb_protocol_folding.specs.View.{term_of}
use Rattle.pb_protocol_unfolding.specs.Written.{written_tuples}
use Rattle.pb_protocol_unfolding.specs.PutIn.{standing}
use Rattle.pb_protocol_unfolding.specs.Unfolding.{terms_of, unfolded, unfolded_formula}
use Rattle.pb_protocol_unfolder_terms.specs.declared.scope.TermScope.{TermScope}
use Rattle.pb_protocol_unfolder_terms.specs.declared.written.Written.{Written}
use Rattle.pb_protocol_unfolder_terms.specs.Values.{tuple_of}
use Rattle.pb_protocol_unfolder_terms.specs.View.{variable_of}
use Rattle.pb_protocol_unfolder_steps.specs.declared.unfolder.Unfolder.{Unfolder}
use Rattle.pb_protocol_unfolder_steps.specs.Unfolder.{protocol_in, scope_within}
use Rattle.pb_protocol_unfolder.specs.declared.formula.Copies.{Copies}
use Rattle.pb_protocol_unfolder.specs.Left.{left_formula, left_operators}
use Rattle.pb_protocol_unfolder.specs.Operators.{written_operators}

-- the tuples of values of variables
abbrev pub tuples_in : Unfolder → List Variable → List (List Term)
tuples_in u xs = written_tuples (data_of (protocol_in u)) xs

-- a data term as a formula
abbrev pub data_formula : Unfolder → TermScope → declared_term.Term → flat.Formula
data_formula u scope x =
    folded_property_formula (unfolded (protocol_in u))
    (unfolded_formula (protocol_in u) (scope_within u scope) (syntax.Formula.Data (term_of x)))

-- a formula where the quantifier's variables stand for these values
abbrev pub copy_at : Unfolder → Copies → FormulaForm → List Term → flat.Formula
copy_at u copies f ks =
    folded_property_formula (unfolded (protocol_in u))
    (unfolded_formula (protocol_in u)
    (standing (map variable_of copies.variables.now) (terms_of ks)
    (scope_within u copies.outer.now.names))
    (erased_formula f))

abbrev pub copy_of : Unfolder → Copies → Formula → Vec Written Global → flat.Formula
copy_of u copies f values = copy_at u copies (formula_form f) (tuple_of values)

-- the operand of a chain
abbrev pub left_operand : Unfolder → TermScope → Link → flat.Formula
left_operand u scope link = left_formula u scope (formula_form link.operand)

-- how many operators an operand has, with the connective before it
abbrev pub link_operators : Unfolder → TermScope → Link → ℕ
link_operators u scope link = suc (left_operators u scope (formula_form link.operand))

-- how many a copy has, with the connective behind it, where the variables stand for these values
abbrev pub tuple_operators :
    Unfolder → TermScope → List Variable → FormulaForm → List Term → ℕ
tuple_operators u scope xs f ks =
    suc (written_operators (protocol_in u) (standing xs (terms_of ks) (scope_within u scope))
    (erased_formula f))

abbrev pub copy_operators : Unfolder → Copies → Formula → Vec Written Global → ℕ
copy_operators u copies f values =
    tuple_operators u copies.outer.now.names (map variable_of copies.variables.now) (formula_form f)
    (tuple_of values)
