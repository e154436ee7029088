-- What a protocol's syntax tree says: its abstract syntax, without places.
use Rattle.std.specs.Prelude.{map, Option, Some, None}
use Rattle.pb_text_tree.specs.declared.operator.Connective.{Connective}
use Rattle.pb_text_tree.specs.declared.operator.Connective.TheVariants as connective
use Rattle.pb_text_meaning.specs.Syntax.{Term}
use Rattle.pb_text_meaning.specs.Erase.{erased_term, erased_arguments, erased_variables}
use Rattle.pb_text_meaning.specs.Erase.{erased_declaration, erased_range}
use Rattle.pb_model_tree.specs.declared.formula.Modality.{Modality}
use Rattle.pb_model_tree.specs.declared.formula.Modality.TheVariants as modality
use Rattle.pb_protocol_tree.specs.declared.protocol.Protocol as declared_protocol
use Rattle.pb_protocol_tree.specs.Form.{StepValueForm, StepSetForm, FormulaForm}
use Rattle.pb_protocol_tree.specs.Form.{StateVariableForm, DefinitionForm, AssignmentForm}
use Rattle.pb_protocol_tree.specs.Form.{StepForm, PropertyForm, ProtocolForm, copied_variables}
use Rattle.pb_protocol_tree.specs.Form.{protocol_form}
use Rattle.pb_protocol_meaning.specs.Syntax.{StateVariable, Definition, Assignment, Step, StepSet}
use Rattle.pb_protocol_meaning.specs.Syntax.{Formula, Property, Protocol}

abbrev pub erased_value : StepValueForm → Option Term
erased_value (StepValueForm.any_value p) = None
erased_value (StepValueForm.given p x) = Some (erased_term x)

abbrev pub erased_steps : StepSetForm → StepSet
erased_steps (StepSetForm.all p) = StepSet.All
erased_steps (StepSetForm.step x) = StepSet.Only x.text
erased_steps (StepSetForm.instances x values) = StepSet.With x.text (map erased_value values)
erased_steps (StepSetForm.complement p A) = StepSet.Complement (erased_steps A)
erased_steps (StepSetForm.union p A B) = StepSet.Union (erased_steps A) (erased_steps B)

abbrev pub joined : Connective → Formula → Formula → Formula
joined connective.And f g = Formula.And f g
joined connective.Or f g = Formula.Or f g
joined connective.Implies f g = Formula.Implies f g

abbrev pub modal : Modality → StepSet → Formula → Formula
modal modality.Box A f = Formula.Box A f
modal modality.Diamond A f = Formula.Diamond A f

abbrev pub erased_formula : FormulaForm → Formula
erased_formula (FormulaForm.constant p b) = Formula.Truth b
erased_formula (FormulaForm.«data» p x) = Formula.Data (erased_term x)
erased_formula (FormulaForm.variable x) = Formula.Named x.text
erased_formula (FormulaForm.negation p f) = Formula.Not (erased_formula f)
erased_formula (FormulaForm.connected c p f g) = joined c (erased_formula f) (erased_formula g)
erased_formula (FormulaForm.modal k p A f) = modal k (erased_steps A) (erased_formula f)
erased_formula (FormulaForm.fixpoint sign p x f) = Formula.Fixpoint sign x.text (erased_formula f)
erased_formula (FormulaForm.quantified q p xs f) =
    Formula.Quantified q (erased_variables xs) (erased_formula f)

abbrev pub erased_state_variable : StateVariableForm → StateVariable
erased_state_variable x = record {
  name = x.name.text;
  indices = erased_variables x.indices;
  sort = x.sort.text;
}

abbrev pub erased_definition : DefinitionForm → Definition
erased_definition d = record {
  name = d.name.text;
  parameters = erased_variables d.parameters;
  term = erased_term d.term;
}

abbrev pub erased_assignment : AssignmentForm → Assignment
erased_assignment a = record {
  variables = erased_variables (copied_variables a.copies);
  variable = a.variable.text;
  index = erased_arguments a.index;
  term = erased_term a.value;
}

abbrev pub erased_step : StepForm → Step
erased_step a = record {
  name = a.name.text;
  variables = erased_variables a.variables;
  guard = erased_term a.guard;
  assignments = map erased_assignment a.assignments;
}

abbrev pub erased_property : PropertyForm → Property
erased_property p = record { name = p.name.text; formula = erased_formula p.formula }

-- the text of a protocol, as a protocol
abbrev pub erase : ProtocolForm → Protocol
erase text = record {
  sorts = map erased_declaration text.sorts;
  ranges = map erased_range text.ranges;
  variables = map erased_state_variable text.variables;
  definitions = map erased_definition text.definitions;
  steps = map erased_step text.steps;
  initial = erased_arguments text.initial.values;
  properties = map erased_property text.properties;
}

-- and its tree
abbrev pub protocol_of : declared_protocol.Protocol → Protocol
protocol_of tree = erase (protocol_form tree)
