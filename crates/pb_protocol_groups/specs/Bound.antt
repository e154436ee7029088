-- The names of all variables of a model, each with its place: its own, those of steps and those of
-- quantifiers.
use Rattle.std.specs.Prelude.{List, [], ◌++◌, flat_map}
use Rattle.pb_text_tree.specs.Form.{Named, TermForm, ArgumentForms, no_arguments, argument}
use Rattle.pb_typing_declarations.specs.Declarations.{variable_names}
use Rattle.pb_model_tree.specs.Form.{AssignmentForm, StepForm, FormulaForm, PropertyForm}
use Rattle.pb_model_tree.specs.Form.{ModelForm}

abbrev mutual
  pub bound_names : TermForm → List Named
  bound_names (TermForm.constant p b) = []
  bound_names (TermForm.number p n) = []
  bound_names (TermForm.name x) = []
  bound_names (TermForm.not p x) = bound_names x
  bound_names (TermForm.negative p x) = bound_names x
  bound_names (TermForm.connected c p x y) = bound_names x ++ bound_names y
  bound_names (TermForm.compared c p x y) = bound_names x ++ bound_names y
  bound_names (TermForm.computed o p x y) = bound_names x ++ bound_names y
  bound_names (TermForm.application f xs) = all_bound_names xs
  bound_names (TermForm.quantified q p xs x) = variable_names xs ++ bound_names x

  pub all_bound_names : ArgumentForms → List Named
  all_bound_names no_arguments = []
  all_bound_names (argument p x xs) = bound_names x ++ all_bound_names xs

abbrev pub formula_bound_names : FormulaForm → List Named
formula_bound_names (FormulaForm.constant p b) = []
formula_bound_names (FormulaForm.«data» p x) = bound_names x
formula_bound_names (FormulaForm.variable X) = []
formula_bound_names (FormulaForm.negation p f) = formula_bound_names f
formula_bound_names (FormulaForm.connected c p f g) =
    formula_bound_names f ++ formula_bound_names g
formula_bound_names (FormulaForm.modal k p A f) = formula_bound_names f
formula_bound_names (FormulaForm.fixpoint sign p X f) = formula_bound_names f

abbrev pub assigned_bound_names : AssignmentForm → List Named
assigned_bound_names b = bound_names b.value

abbrev pub step_bound_names : StepForm → List Named
step_bound_names a =
    variable_names a.variables
    ++ (bound_names a.guard ++ flat_map assigned_bound_names a.assignments)

abbrev pub property_bound_names : PropertyForm → List Named
property_bound_names p = formula_bound_names p.formula

abbrev pub model_bound_names : ModelForm → List Named
model_bound_names m =
    variable_names m.variables
    ++ (flat_map step_bound_names m.steps ++ (all_bound_names m.initial.values
    ++ flat_map property_bound_names m.properties))
