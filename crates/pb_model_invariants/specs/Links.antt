-- Formulas and the links of chains as the program holds them.
use Rattle.std.specs.Prelude.{Bool, true, false, List, map, Option, Some, None}
use denote.Ref.{Bor}
use Rattle.pb_text_tree.specs.declared.place.Place.{Place}
use Rattle.pb_text_tree.specs.declared.operator.Connective.{Connective}
use Rattle.pb_text_tree.specs.declared.operator.Connective.TheVariants.{And, Or, Implies}
use Rattle.pb_model_tree.specs.declared.formula.Formula.{Formula}
use Rattle.pb_model_tree.specs.declared.formula.Link.{Link}
use Rattle.pb_model_tree.specs.declared.step_set.StepSetLink.{StepSetLink}
use Rattle.pb_model_tree.specs.Form.{StepSetForm, step_set_form, FormulaForm, formula_form}
use Rattle.pb_model_invariants.specs.declared.greatest.GreatestFixpoint.{GreatestFixpoint}
use Rattle.pb_model_invariants.specs.Invariants.{Greatest, conjuncts, is_fixpoint_free}

abbrev pub link_form : Link → Place × FormulaForm
link_form link = (link.place, formula_form link.operand)

abbrev pub link_forms : List Link → List (Place × FormulaForm)
link_forms = map link_form

abbrev pub set_link : StepSetLink → Place × StepSetForm
set_link link = (link.place, step_set_form link.operand)

abbrev pub set_links : List StepSetLink → List (Place × StepSetForm)
set_links = map set_link

abbrev pub form_by : Bor Formula → FormulaForm
form_by f = formula_form f.now

-- borrowed formulas, in order
abbrev pub forms_in : List (Bor Formula) → List FormulaForm
forms_in = map form_by

abbrev pub conjuncts_of_link : Link → List FormulaForm
conjuncts_of_link link = conjuncts (formula_form link.operand)

abbrev pub is_free_link : Link → Bool
is_free_link link = is_fixpoint_free (formula_form link.operand)

-- whether an operator is `&&`
abbrev pub is_and : Connective → Bool
is_and And = true
is_and Or = false
is_and Implies = false

abbrev pub greatest_form : GreatestFixpoint → Greatest
greatest_form g = record { variable = g.variable.now; body = formula_form g.body.now }

abbrev pub greatest_found : Option GreatestFixpoint → Option Greatest
greatest_found None = None
greatest_found (Some g) = Some (greatest_form g)
