-- What a protocol's syntax tree says, without boxes and vectors. A chain of operators is folded to
-- nested binary nodes, and each variable stands with its sort.
use Rattle.std.specs.Prelude.{Bool, List, [], ◌∷◌, map, flat_map, Option, Some, None}
use Rattle.pb_fixpoint.specs.declared.Sign.{Sign}
use Rattle.pb_text_tree.specs.declared.place.Place.{Place}
use Rattle.pb_text_tree.specs.declared.name.Name as declared_name
use Rattle.pb_text_tree.specs.declared.operator.Connective.{Connective}
use Rattle.pb_text_tree.specs.declared.operator.Quantifier.{Quantifier}
use Rattle.pb_text_tree.specs.Form.{Named, VariableForm, TermForm, ArgumentForms}
use Rattle.pb_text_tree.specs.Form.{SortDeclarationForm, RangeForm, chained, named, term_form}
use Rattle.pb_text_tree.specs.Form.{variable_forms, argument_forms, sort_declaration_form}
use Rattle.pb_text_tree.specs.Form.{range_form}
use Rattle.pb_model_tree.specs.declared.formula.Modality.{Modality}
use Rattle.pb_model_tree.specs.Form.{InitialForm, initial_form}
use Rattle.pb_protocol_tree.specs.declared.step_set.StepValue as declared_value
use Rattle.pb_protocol_tree.specs.declared.step_set.StepValue.TheVariants as step_value
use Rattle.pb_protocol_tree.specs.declared.step_set.StepSet as step_set
use Rattle.pb_protocol_tree.specs.declared.step_set.StepSet.{StepSet, Row_of-StepSetLink}
use Rattle.pb_protocol_tree.specs.declared.step_set.StepSet.{end_of-StepSetLink}
use Rattle.pb_protocol_tree.specs.declared.step_set.StepSet.{more_of-StepSetLink}
use Rattle.pb_protocol_tree.specs.declared.formula.Formula as formula
use Rattle.pb_protocol_tree.specs.declared.formula.Formula.{Formula, Row_of-Link, end_of-Link}
use Rattle.pb_protocol_tree.specs.declared.formula.Formula.{more_of-Link}
use Rattle.pb_protocol_tree.specs.declared.step.Copies as declared_copies
use Rattle.pb_protocol_tree.specs.declared.step.Assignment as declared_assignment
use Rattle.pb_protocol_tree.specs.declared.step.Step as declared_step
use Rattle.pb_protocol_tree.specs.declared.protocol.StateVariable as declared_variable
use Rattle.pb_protocol_tree.specs.declared.protocol.StateVariables as declared_variables
use Rattle.pb_protocol_tree.specs.declared.protocol.Definition as declared_definition
use Rattle.pb_protocol_tree.specs.declared.protocol.Property as declared_property
use Rattle.pb_protocol_tree.specs.declared.protocol.Protocol as declared_protocol
use Rattle.pb_protocol_tree.specs.declared.header.Constant as declared_constant
use Rattle.pb_protocol_tree.specs.declared.header.Bounds as declared_bounds
use Rattle.pb_protocol_tree.specs.declared.header.ModelText as declared_text

-- ---- sets of steps and formulas

-- what stands for one of a step's own variables: anything, or a term, with the place of its first
-- token
pub data StepValueForm : Type 0 where
  any_value : Place → StepValueForm
  given : Place → TermForm → StepValueForm

-- The place of a binary node is that of its operator.
pub data StepSetForm : Type 0 where
  all : Place → StepSetForm
  step : Named → StepSetForm
  instances : Named → List StepValueForm → StepSetForm
  complement : Place → StepSetForm → StepSetForm
  union : Place → StepSetForm → StepSetForm → StepSetForm

pub data FormulaForm : Type 0 where
  constant : Place → Bool → FormulaForm
  «data» : Place → TermForm → FormulaForm
  variable : Named → FormulaForm
  negation : Place → FormulaForm → FormulaForm
  connected : Connective → Place → FormulaForm → FormulaForm → FormulaForm
  modal : Modality → Place → StepSetForm → FormulaForm → FormulaForm
  fixpoint : Sign → Place → Named → FormulaForm → FormulaForm
  quantified : Quantifier → Place → List VariableForm → FormulaForm → FormulaForm

-- ---- protocols

-- a state variable with its indices, of which a plain one has none, and the sort of its values
pub record StateVariableForm : Type 0 where
  pub name : Named
  pub indices : List VariableForm
  pub sort : Named

pub record DefinitionForm : Type 0 where
  pub name : Named
  pub parameters : List VariableForm
  pub term : TermForm

-- the variables of a `forall` before an assignment, which stands at the place
pub record CopiesForm : Type 0 where
  pub place : Place
  pub variables : List VariableForm

-- what is assigned, with the place of its first token
pub record AssignmentForm : Type 0 where
  pub copies : Option CopiesForm
  pub variable : Named
  pub index : ArgumentForms
  pub place : Place
  pub value : TermForm

pub record StepForm : Type 0 where
  pub name : Named
  pub variables : List VariableForm
  pub guard : TermForm
  pub assignments : List AssignmentForm

pub record PropertyForm : Type 0 where
  pub name : Named
  pub formula : FormulaForm

pub record ProtocolForm : Type 0 where
  pub sorts : List SortDeclarationForm
  pub ranges : List RangeForm
  pub variables : List StateVariableForm
  pub definitions : List DefinitionForm
  pub steps : List StepForm
  pub initial : InitialForm
  pub properties : List PropertyForm

-- ---- texts

-- a whole number's name, and the term whose value it is, with the place of its first token
pub record ConstantForm : Type 0 where
  pub name : Named
  pub place : Place
  pub value : TermForm

-- the bounds of a sort's values, each with the place of its first token
pub record BoundsForm : Type 0 where
  pub sort : Named
  pub low_place : Place
  pub low : TermForm
  pub high_place : Place
  pub high : TermForm

pub record ModelTextForm : Type 0 where
  pub constants : List ConstantForm
  pub bounds : List BoundsForm
  pub protocol : ProtocolForm

-- ---- what the parts of a tree say

abbrev pub step_value_form : declared_value.StepValue → StepValueForm
step_value_form (step_value.Any place) = StepValueForm.any_value place
step_value_form (step_value.Value x) = StepValueForm.given x.place (term_form x.term)

abbrev mutual
  pub step_set_form : StepSet → StepSetForm
  step_set_form (step_set.All place) = StepSetForm.all place
  step_set_form (step_set.Step n) = StepSetForm.step (named n)
  step_set_form (step_set.Instances n values) =
      StepSetForm.instances (named n) (map step_value_form values.items)
  step_set_form (step_set.Complement' place p operand) =
      StepSetForm.complement place (step_set_form operand)
  step_set_form (step_set.Union' p first shape row) =
      chained StepSetForm.union (step_set_form first) (step_set_links_in row)

  pub step_set_links_in : {m : _} → Row_of-StepSetLink m → List (Place × StepSetForm)
  step_set_links_in end_of-StepSetLink = []
  step_set_links_in (more_of-StepSetLink place operand row) =
      (place, step_set_form operand) ∷ step_set_links_in row

abbrev mutual
  pub formula_form : Formula → FormulaForm
  formula_form (formula.Constant place value) = FormulaForm.constant place value
  formula_form (formula.Data place x) = FormulaForm.«data» place (term_form x)
  formula_form (formula.Variable n) = FormulaForm.variable (named n)
  formula_form (formula.Negation' place p operand) =
      FormulaForm.negation place (formula_form operand)
  formula_form (formula.Chain' connective p first shape row) =
      chained (FormulaForm.connected connective) (formula_form first) (links_in row)
  formula_form (formula.Modal' place modality steps p operand) =
      FormulaForm.modal modality place (step_set_form steps) (formula_form operand)
  formula_form (formula.Fixpoint' place sign x p body) =
      FormulaForm.fixpoint sign place (named x) (formula_form body)
  formula_form (formula.Quantified' place quantifier variables p body) =
      FormulaForm.quantified quantifier place (variable_forms variables.items) (formula_form body)

  pub links_in : {m : _} → Row_of-Link m → List (Place × FormulaForm)
  links_in end_of-Link = []
  links_in (more_of-Link place operand row) = (place, formula_form operand) ∷ links_in row

-- a state variable with its own name and the sort of its group
abbrev pub state_variable_form :
    declared_name.Name → declared_variable.StateVariable → StateVariableForm
state_variable_form sort x = record {
  name = named x.name;
  indices = variable_forms x.indices.items;
  sort = named sort;
}

abbrev pub state_variables_form : declared_variables.StateVariables → List StateVariableForm
state_variables_form group = map (state_variable_form group.sort) group.variables.items

abbrev pub definition_form : declared_definition.Definition → DefinitionForm
definition_form d = record {
  name = named d.name;
  parameters = variable_forms d.parameters.items;
  term = term_form d.term;
}

abbrev pub copies_form : declared_copies.Copies → CopiesForm
copies_form c = record { place = c.place; variables = variable_forms c.variables.items }

abbrev pub copies_said : Option declared_copies.Copies → Option CopiesForm
copies_said None = None
copies_said (Some c) = Some (copies_form c)

-- the variables before an assignment, of which there are none where there is no `forall`
abbrev pub copied_variables : Option CopiesForm → List VariableForm
copied_variables None = []
copied_variables (Some c) = c.variables

abbrev pub assignment_form : declared_assignment.Assignment → AssignmentForm
assignment_form a = record {
  copies = copies_said a.copies;
  variable = named a.variable;
  index = argument_forms a.index.items;
  place = a.value.place;
  value = term_form a.value.term;
}

abbrev pub step_form : declared_step.Step → StepForm
step_form s = record {
  name = named s.name;
  variables = variable_forms s.variables.items;
  guard = term_form s.guard;
  assignments = map assignment_form s.assignments.items;
}

abbrev pub property_form : declared_property.Property → PropertyForm
property_form p = record { name = named p.name; formula = formula_form p.formula }

abbrev pub protocol_form : declared_protocol.Protocol → ProtocolForm
protocol_form m = record {
  sorts = map sort_declaration_form m.sorts.items;
  ranges = map range_form m.ranges.items;
  variables = flat_map state_variables_form m.state.items;
  definitions = map definition_form m.definitions.items;
  steps = map step_form m.steps.items;
  initial = initial_form m.initial;
  properties = map property_form m.properties.items;
}

abbrev pub constant_form : declared_constant.Constant → ConstantForm
constant_form c = record {
  name = named c.name;
  place = c.value.place;
  value = term_form c.value.term;
}

abbrev pub bounds_form : declared_bounds.Bounds → BoundsForm
bounds_form b = record {
  sort = named b.sort;
  low_place = b.low.place;
  low = term_form b.low.term;
  high_place = b.high.place;
  high = term_form b.high.term;
}

abbrev pub model_text_form : declared_text.ModelText → ModelTextForm
model_text_form t = record {
  constants = map constant_form t.constants.items;
  bounds = map bounds_form t.bounds.items;
  protocol = protocol_form t.protocol;
}
