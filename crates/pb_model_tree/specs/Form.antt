-- What a model's syntax tree says, without boxes and vectors. A chain of operators is folded to
-- nested binary nodes, and each variable stands with its sort.
use Rattle.std.specs.Prelude.{Bool, List, [], ◌∷◌, map}
use Rattle.pb_fixpoint.specs.declared.Sign.{Sign}
use Rattle.pb_text_tree.specs.declared.place.Place.{Place}
use Rattle.pb_text_tree.specs.declared.operator.Connective.{Connective}
use Rattle.pb_text_tree.specs.Form.{Named, VariableForm, TermForm, ArgumentForms}
use Rattle.pb_text_tree.specs.Form.{SortDeclarationForm, RangeForm, chained, named, term_form}
use Rattle.pb_text_tree.specs.Form.{variable_forms, argument_forms, sort_declaration_form}
use Rattle.pb_text_tree.specs.Form.{range_form}
use Rattle.pb_model_tree.specs.declared.step_set.StepSet as step_set
use Rattle.pb_model_tree.specs.declared.step_set.StepSet.{StepSet, Row_of-StepSetLink}
use Rattle.pb_model_tree.specs.declared.step_set.StepSet.{end_of-StepSetLink, more_of-StepSetLink}
use Rattle.pb_model_tree.specs.declared.formula.Modality.{Modality}
use Rattle.pb_model_tree.specs.declared.formula.Formula as formula
use Rattle.pb_model_tree.specs.declared.formula.Formula.{Formula, Row_of-Link, end_of-Link}
use Rattle.pb_model_tree.specs.declared.formula.Formula.{more_of-Link}
use Rattle.pb_model_tree.specs.declared.step.Assignment as declared_assignment
use Rattle.pb_model_tree.specs.declared.step.Step as declared_step
use Rattle.pb_model_tree.specs.declared.model.InitialState as declared_initial
use Rattle.pb_model_tree.specs.declared.model.Property as declared_property
use Rattle.pb_model_tree.specs.declared.model.Model as declared_model

-- ---- sets of steps and formulas

-- The place of a binary node is that of its operator.
pub data StepSetForm : Type 0 where
  all : Place → StepSetForm
  step : Named → StepSetForm
  complement : Place → StepSetForm → StepSetForm
  union : Place → StepSetForm → StepSetForm → StepSetForm

pub data FormulaForm : Type 0 where
  constant : Place → Bool → FormulaForm
  «data» : Place → TermForm → FormulaForm
  variable : Named → FormulaForm
  negation : Place → FormulaForm → FormulaForm
  connected : Connective → Place → FormulaForm → FormulaForm → FormulaForm
  modal : Modality → Place → StepSetForm → FormulaForm → FormulaForm
  fixpoint : Sign → Place → Named → FormulaForm → FormulaForm

-- ---- models

-- what is assigned, with the place of its first token
pub record AssignmentForm : Type 0 where
  pub variable : Named
  pub place : Place
  pub value : TermForm

pub record StepForm : Type 0 where
  pub name : Named
  pub variables : List VariableForm
  pub guard : TermForm
  pub assignments : List AssignmentForm

pub record InitialForm : Type 0 where
  pub place : Place
  pub values : ArgumentForms

pub record PropertyForm : Type 0 where
  pub name : Named
  pub formula : FormulaForm

pub record ModelForm : Type 0 where
  pub sorts : List SortDeclarationForm
  pub ranges : List RangeForm
  pub variables : List VariableForm
  pub steps : List StepForm
  pub initial : InitialForm
  pub properties : List PropertyForm

-- ---- what the parts of a tree say

abbrev mutual
  pub step_set_form : StepSet → StepSetForm
  step_set_form (step_set.All place) = StepSetForm.all place
  step_set_form (step_set.Step n) = StepSetForm.step (named n)
  step_set_form (step_set.Complement' place p operand) =
      StepSetForm.complement place (step_set_form operand)
  step_set_form (step_set.Union' p first shape row) =
      chained StepSetForm.union (step_set_form first) (step_set_links_in row)

  pub step_set_links_in : {m : _} → Row_of-StepSetLink m → List (Place × StepSetForm)
  step_set_links_in end_of-StepSetLink = []
  step_set_links_in (more_of-StepSetLink place operand row) =
      (place, step_set_form operand) ∷ step_set_links_in row

abbrev mutual
  pub formula_form : Formula → FormulaForm
  formula_form (formula.Constant place value) = FormulaForm.constant place value
  formula_form (formula.Data place x) = FormulaForm.«data» place (term_form x)
  formula_form (formula.Variable n) = FormulaForm.variable (named n)
  formula_form (formula.Negation' place p operand) =
      FormulaForm.negation place (formula_form operand)
  formula_form (formula.Chain' connective p first shape row) =
      chained (FormulaForm.connected connective) (formula_form first) (links_in row)
  formula_form (formula.Modal' place modality steps p operand) =
      FormulaForm.modal modality place (step_set_form steps) (formula_form operand)
  formula_form (formula.Fixpoint' place sign x p body) =
      FormulaForm.fixpoint sign place (named x) (formula_form body)

  pub links_in : {m : _} → Row_of-Link m → List (Place × FormulaForm)
  links_in end_of-Link = []
  links_in (more_of-Link place operand row) = (place, formula_form operand) ∷ links_in row

abbrev pub assignment_form : declared_assignment.Assignment → AssignmentForm
assignment_form a = record {
  variable = named a.variable;
  place = a.value.place;
  value = term_form a.value.term;
}

abbrev pub step_form : declared_step.Step → StepForm
step_form s = record {
  name = named s.name;
  variables = variable_forms s.variables.items;
  guard = term_form s.guard;
  assignments = map assignment_form s.assignments.items;
}

abbrev pub initial_form : declared_initial.InitialState → InitialForm
initial_form i = record { place = i.place; values = argument_forms i.values.items }

abbrev pub property_form : declared_property.Property → PropertyForm
property_form p = record { name = named p.name; formula = formula_form p.formula }

abbrev pub model_form : declared_model.Model → ModelForm
model_form m = record {
  sorts = map sort_declaration_form m.sorts.items;
  ranges = map range_form m.ranges.items;
  variables = variable_forms m.state.items;
  steps = map step_form m.steps.items;
  initial = initial_form m.initial;
  properties = map property_form m.properties.items;
}
