-- The lists of variables of a protocol.
use Rattle.std.specs.Prelude.{List, [], ◌∷◌, ◌++◌, map, flat_map, Option, Some, None}
use Rattle.pb_text_tree.specs.Form.{VariableForm, TermForm, ArgumentForms, no_arguments, argument}
use Rattle.pb_protocol_tree.specs.Form.{FormulaForm, StateVariableForm, DefinitionForm}
use Rattle.pb_protocol_tree.specs.Form.{CopiesForm, AssignmentForm, StepForm, PropertyForm}
use Rattle.pb_protocol_tree.specs.Form.{ProtocolForm}

-- those of its quantifiers
abbrev mutual
  pub term_lists : TermForm → List (List VariableForm)
  term_lists (TermForm.constant p b) = []
  term_lists (TermForm.number p n) = []
  term_lists (TermForm.name x) = []
  term_lists (TermForm.not p x) = term_lists x
  term_lists (TermForm.negative p x) = term_lists x
  term_lists (TermForm.connected c p x y) = term_lists x ++ term_lists y
  term_lists (TermForm.compared c p x y) = term_lists x ++ term_lists y
  term_lists (TermForm.computed o p x y) = term_lists x ++ term_lists y
  term_lists (TermForm.application f xs) = arguments_lists xs
  term_lists (TermForm.quantified q p xs x) = xs ∷ term_lists x

  pub arguments_lists : ArgumentForms → List (List VariableForm)
  arguments_lists no_arguments = []
  arguments_lists (argument p x xs) = term_lists x ++ arguments_lists xs

abbrev pub formula_lists : FormulaForm → List (List VariableForm)
formula_lists (FormulaForm.constant p b) = []
formula_lists (FormulaForm.«data» p x) = term_lists x
formula_lists (FormulaForm.variable x) = []
formula_lists (FormulaForm.negation p f) = formula_lists f
formula_lists (FormulaForm.connected c p f g) = formula_lists f ++ formula_lists g
formula_lists (FormulaForm.modal k p A f) = formula_lists f
formula_lists (FormulaForm.fixpoint sign p x f) = formula_lists f
formula_lists (FormulaForm.quantified q p xs f) = xs ∷ formula_lists f

-- the variables of a `forall` before an assignment
abbrev pub copies_lists : Option CopiesForm → List (List VariableForm)
copies_lists None = []
copies_lists (Some c) = c.variables ∷ []

abbrev pub copied_lists : AssignmentForm → List (List VariableForm)
copied_lists b = copies_lists b.copies

abbrev pub assignment_lists : AssignmentForm → List (List VariableForm)
assignment_lists b = copied_lists b ++ (arguments_lists b.index ++ term_lists b.value)

-- its indices, parameters and own variables, and quantifiers
abbrev pub definition_lists : DefinitionForm → List (List VariableForm)
definition_lists d = d.parameters ∷ term_lists d.term

abbrev pub step_lists : StepForm → List (List VariableForm)
step_lists a = a.variables ∷ (term_lists a.guard ++ flat_map assignment_lists a.assignments)

abbrev pub property_lists : PropertyForm → List (List VariableForm)
property_lists p = formula_lists p.formula

abbrev pub index_lists : List StateVariableForm → List (List VariableForm)
index_lists ys = map (λ (y : StateVariableForm). y.indices) ys

-- those that are declared: of indices, parameters, own variables, and of assignments
abbrev pub parameter_lists : List DefinitionForm → List (List VariableForm)
parameter_lists ds = map (λ (d : DefinitionForm). d.parameters) ds

abbrev pub own_lists : StepForm → List (List VariableForm)
own_lists a = a.variables ∷ flat_map copied_lists a.assignments

abbrev pub declared_lists : ProtocolForm → List (List VariableForm)
declared_lists text =
    index_lists text.variables
    ++ (parameter_lists text.definitions ++ flat_map own_lists text.steps)

-- and all of them
abbrev pub protocol_lists : ProtocolForm → List (List VariableForm)
protocol_lists text =
    index_lists text.variables
    ++ (flat_map definition_lists text.definitions
    ++ (flat_map step_lists text.steps
    ++ (arguments_lists text.initial.values ++ flat_map property_lists text.properties)))
