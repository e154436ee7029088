-- Protocols without arrays, definitions, values in sets of steps, quantifiers and counting: flat
-- models.
use Rattle.std.specs.Prelude.{Bool, true, false, not, ◌&&◌, List, [], ◌∷◌, map, Option, Some, None}
use Rattle.std.specs.List.{list_all}
use Rattle.pb_text_tree.specs.Form.{VariableForm, TermForm, ArgumentForms, no_arguments}
use Rattle.pb_text_tree.specs.Form.{argument}
use Rattle.pb_model_tree.specs.Form as flat
use Rattle.pb_protocol_tree.specs.Form.{StepSetForm, FormulaForm}
use Rattle.pb_text_counting.specs.Counting.{is_counting}
use Rattle.pb_protocol_tree.specs.Form.{StateVariableForm, CopiesForm, AssignmentForm, StepForm}
use Rattle.pb_protocol_tree.specs.Form.{DefinitionForm, PropertyForm, ProtocolForm}

-- ---- a flat model as a protocol, word for word

abbrev pub plain_variable_form : VariableForm → StateVariableForm
plain_variable_form x = record { name = x.name; indices = []; sort = x.sort }

abbrev pub plain_assignment_form : flat.AssignmentForm → AssignmentForm
plain_assignment_form a = record {
  copies = None;
  variable = a.variable;
  index = no_arguments;
  place = a.place;
  value = a.value;
}

abbrev pub plain_step_form : flat.StepForm → StepForm
plain_step_form a = record {
  name = a.name;
  variables = a.variables;
  guard = a.guard;
  assignments = map plain_assignment_form a.assignments;
}

abbrev pub plain_set_form : flat.StepSetForm → StepSetForm
plain_set_form (flat.StepSetForm.all p) = StepSetForm.all p
plain_set_form (flat.StepSetForm.step x) = StepSetForm.step x
plain_set_form (flat.StepSetForm.complement p A) = StepSetForm.complement p (plain_set_form A)
plain_set_form (flat.StepSetForm.union p A B) =
    StepSetForm.union p (plain_set_form A) (plain_set_form B)

abbrev pub plain_formula_form : flat.FormulaForm → FormulaForm
plain_formula_form (flat.FormulaForm.constant p b) = FormulaForm.constant p b
plain_formula_form (flat.FormulaForm.«data» p x) = FormulaForm.«data» p x
plain_formula_form (flat.FormulaForm.variable x) = FormulaForm.variable x
plain_formula_form (flat.FormulaForm.negation p f) = FormulaForm.negation p (plain_formula_form f)
plain_formula_form (flat.FormulaForm.connected c p f g) =
    FormulaForm.connected c p (plain_formula_form f) (plain_formula_form g)
plain_formula_form (flat.FormulaForm.modal k p A f) =
    FormulaForm.modal k p (plain_set_form A) (plain_formula_form f)
plain_formula_form (flat.FormulaForm.fixpoint sign p x f) =
    FormulaForm.fixpoint sign p x (plain_formula_form f)

abbrev pub plain_property_form : flat.PropertyForm → PropertyForm
plain_property_form p = record { name = p.name; formula = plain_formula_form p.formula }

abbrev pub plain_form : flat.ModelForm → ProtocolForm
plain_form m = record {
  sorts = m.sorts;
  ranges = m.ranges;
  variables = map plain_variable_form m.variables;
  definitions = [];
  steps = map plain_step_form m.steps;
  initial = m.initial;
  properties = map plain_property_form m.properties;
}

-- ---- a protocol without what flat models don't have

abbrev pub flat_variable : StateVariableForm → VariableForm
flat_variable x = record { name = x.name; sort = x.sort }

abbrev pub flat_assignment : AssignmentForm → flat.AssignmentForm
flat_assignment a = record { variable = a.variable; place = a.place; value = a.value }

abbrev pub flat_step_form : StepForm → flat.StepForm
flat_step_form a = record {
  name = a.name;
  variables = a.variables;
  guard = a.guard;
  assignments = map flat_assignment a.assignments;
}

abbrev pub flat_set : StepSetForm → flat.StepSetForm
flat_set (StepSetForm.all p) = flat.StepSetForm.all p
flat_set (StepSetForm.step x) = flat.StepSetForm.step x
flat_set (StepSetForm.instances x values) = flat.StepSetForm.step x
flat_set (StepSetForm.complement p A) = flat.StepSetForm.complement p (flat_set A)
flat_set (StepSetForm.union p A B) = flat.StepSetForm.union p (flat_set A) (flat_set B)

abbrev pub flat_formula_form : FormulaForm → flat.FormulaForm
flat_formula_form (FormulaForm.constant p b) = flat.FormulaForm.constant p b
flat_formula_form (FormulaForm.«data» p x) = flat.FormulaForm.«data» p x
flat_formula_form (FormulaForm.variable x) = flat.FormulaForm.variable x
flat_formula_form (FormulaForm.negation p f) = flat.FormulaForm.negation p (flat_formula_form f)
flat_formula_form (FormulaForm.connected c p f g) =
    flat.FormulaForm.connected c p (flat_formula_form f) (flat_formula_form g)
flat_formula_form (FormulaForm.modal k p A f) =
    flat.FormulaForm.modal k p (flat_set A) (flat_formula_form f)
flat_formula_form (FormulaForm.fixpoint sign p x f) =
    flat.FormulaForm.fixpoint sign p x (flat_formula_form f)
flat_formula_form (FormulaForm.quantified q p xs f) = flat_formula_form f

abbrev pub flat_property : PropertyForm → flat.PropertyForm
flat_property p = record { name = p.name; formula = flat_formula_form p.formula }

abbrev pub flat_form : ProtocolForm → flat.ModelForm
flat_form m = record {
  sorts = m.sorts;
  ranges = m.ranges;
  variables = map flat_variable m.variables;
  steps = map flat_step_form m.steps;
  initial = m.initial;
  properties = map flat_property m.properties;
}

-- ---- where nothing is left out

-- no quantifier stands in a term, so that nothing is counted either
abbrev mutual
  pub is_plain_term : TermForm → Bool
  is_plain_term (TermForm.constant p b) = true
  is_plain_term (TermForm.number p n) = true
  is_plain_term (TermForm.name x) = true
  is_plain_term (TermForm.not p x) = is_plain_term x
  is_plain_term (TermForm.negative p x) = is_plain_term x
  is_plain_term (TermForm.connected c p x y) = is_plain_term x && is_plain_term y
  is_plain_term (TermForm.compared o p x y) = is_plain_term x && is_plain_term y
  is_plain_term (TermForm.computed o p x y) = is_plain_term x && is_plain_term y
  is_plain_term (TermForm.application f xs) = not (is_counting f.text) && are_plain_arguments xs
  is_plain_term (TermForm.quantified q p xs x) = false

  pub are_plain_arguments : ArgumentForms → Bool
  are_plain_arguments no_arguments = true
  are_plain_arguments (argument p x xs) = is_plain_term x && are_plain_arguments xs

abbrev pub has_no_variables : List VariableForm → Bool
has_no_variables [] = true
has_no_variables (x ∷ xs) = false

abbrev pub has_no_arguments : ArgumentForms → Bool
has_no_arguments no_arguments = true
has_no_arguments (argument p x xs) = false

-- no `forall` stands before an assignment
abbrev pub has_no_copies : Option CopiesForm → Bool
has_no_copies None = true
has_no_copies (Some c) = false

-- a variable of one value
abbrev pub is_plain_variable : StateVariableForm → Bool
is_plain_variable y = has_no_variables y.indices

abbrev pub is_plain_assignment : AssignmentForm → Bool
is_plain_assignment a =
    has_no_copies a.copies && has_no_arguments a.index && is_plain_term a.value

abbrev pub is_plain_step : StepForm → Bool
is_plain_step a = is_plain_term a.guard && list_all is_plain_assignment a.assignments

-- steps by their names alone
abbrev pub is_plain_set : StepSetForm → Bool
is_plain_set (StepSetForm.all p) = true
is_plain_set (StepSetForm.step x) = true
is_plain_set (StepSetForm.instances x values) = false
is_plain_set (StepSetForm.complement p A) = is_plain_set A
is_plain_set (StepSetForm.union p A B) = is_plain_set A && is_plain_set B

-- no quantifier stands in a formula
abbrev pub is_plain_formula : FormulaForm → Bool
is_plain_formula (FormulaForm.constant p b) = true
is_plain_formula (FormulaForm.«data» p x) = is_plain_term x
is_plain_formula (FormulaForm.variable x) = true
is_plain_formula (FormulaForm.negation p f) = is_plain_formula f
is_plain_formula (FormulaForm.connected c p f g) = is_plain_formula f && is_plain_formula g
is_plain_formula (FormulaForm.modal k p A f) = is_plain_set A && is_plain_formula f
is_plain_formula (FormulaForm.fixpoint sign p x f) = is_plain_formula f
is_plain_formula (FormulaForm.quantified q p xs f) = false

abbrev pub is_plain_property : PropertyForm → Bool
is_plain_property p = is_plain_formula p.formula

abbrev pub has_no_definitions : List DefinitionForm → Bool
has_no_definitions [] = true
has_no_definitions (d ∷ ds) = false

abbrev pub is_plain_protocol : ProtocolForm → Bool
is_plain_protocol m =
    list_all is_plain_variable m.variables && has_no_definitions m.definitions
    && list_all is_plain_step m.steps && are_plain_arguments m.initial.values
    && list_all is_plain_property m.properties
