-- What the trees of terms, formulas and sets of steps say, without places.
use Rattle.std.specs.Prelude.{List, [], map}
use Rattle.pb_text_tree.specs.declared.term.Term as declared_term
use Rattle.pb_text_tree.specs.declared.term.Argument as declared_argument
use Rattle.pb_text_tree.specs.declared.sort.SortDeclaration as declared_declaration
use Rattle.pb_text_tree.specs.Form.{term_form, argument_forms, sort_declaration_form}
use Rattle.pb_text_meaning.specs.Syntax.{Term, Terms, NoTerms, SortDeclaration, Spec}
use Rattle.pb_text_meaning.specs.Erase.{erased_term, erased_arguments, erased_declaration}
use Rattle.pb_text_tree.specs.declared.place.Place.{Place}
use Rattle.pb_model_tree.specs.declared.formula.Formula as declared_formula
use Rattle.pb_model_tree.specs.declared.formula.Link as declared_link
use Rattle.pb_model_tree.specs.declared.step_set.StepSet as declared_set
use Rattle.pb_model_tree.specs.declared.step_set.StepSetLink as declared_set_link
use Rattle.pb_model_tree.specs.Form.{FormulaForm, StepSetForm, formula_form, step_set_form}
use Rattle.pb_model_meaning.specs.Syntax.{Formula, StepSet}
use Rattle.pb_model_meaning.specs.Erase.{erased_formula, erased_steps}

abbrev pub term_of : declared_term.Term → Term
term_of t = erased_term (term_form t)

abbrev pub terms_of : List declared_argument.Argument → Terms
terms_of arguments = erased_arguments (argument_forms arguments)

abbrev pub formula_of : declared_formula.Formula → Formula
formula_of f = erased_formula (formula_form f)

-- the links of a chain of formulas
abbrev pub link_forms : List declared_link.Link → List (Place × FormulaForm)
link_forms = map (λ (link : declared_link.Link). (link.place, formula_form link.operand))

abbrev pub set_of : declared_set.StepSet → StepSet
set_of A = erased_steps (step_set_form A)

-- the links of a union of sets
abbrev pub set_links : List declared_set_link.StepSetLink → List (Place × StepSetForm)
set_links = map (λ (link : declared_set_link.StepSetLink). (link.place, step_set_form link.operand))

abbrev pub declaration_of : declared_declaration.SortDeclaration → SortDeclaration
declaration_of d = erased_declaration (sort_declaration_form d)

-- sorts, as those of a text without ranges and equations
abbrev pub spec_of : List declared_declaration.SortDeclaration → Spec
spec_of sorts = record {
  sorts = map declaration_of sorts;
  ranges = [];
  equations = [];
  initial = [];
  arguments = NoTerms;
}
