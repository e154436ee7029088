-- What a syntax tree says but for places: all of them are the text's first.
use Rattle.std.specs.Prelude.{List, map, Option, Some, None}
use Rattle.pb_text_tree.specs.declared.place.Place.{Place}
use Rattle.pb_text_tree.specs.Form.{Named, VariableForm, TermForm, ArgumentForms, no_arguments}
use Rattle.pb_text_tree.specs.Form.{argument, InstanceForm, FormulaForm, EnumeratorForm, SortForm}
use Rattle.pb_text_tree.specs.Form.{struct, alias, SortDeclarationForm, RangeForm, EquationForm}
use Rattle.pb_text_tree.specs.Form.{SpecForm}

abbrev pub nowhere : Place
nowhere = record { line = 1; column = 1 }

abbrev pub unplaced_name : Named → Named
unplaced_name n = record n { place = nowhere }

abbrev pub unplaced_variable : VariableForm → VariableForm
unplaced_variable v = record { name = unplaced_name v.name; sort = unplaced_name v.sort }

abbrev pub unplaced_variables : List VariableForm → List VariableForm
unplaced_variables = map unplaced_variable

abbrev mutual
  pub unplaced_term : TermForm → TermForm
  unplaced_term (TermForm.constant p value) = TermForm.constant nowhere value
  unplaced_term (TermForm.number p value) = TermForm.number nowhere value
  unplaced_term (TermForm.name n) = TermForm.name (unplaced_name n)
  unplaced_term (TermForm.not p x) = TermForm.not nowhere (unplaced_term x)
  unplaced_term (TermForm.negative p x) = TermForm.negative nowhere (unplaced_term x)
  unplaced_term (TermForm.connected c p x y) =
      TermForm.connected c nowhere (unplaced_term x) (unplaced_term y)
  unplaced_term (TermForm.compared c p x y) =
      TermForm.compared c nowhere (unplaced_term x) (unplaced_term y)
  unplaced_term (TermForm.computed o p x y) =
      TermForm.computed o nowhere (unplaced_term x) (unplaced_term y)
  unplaced_term (TermForm.application f xs) =
      TermForm.application (unplaced_name f) (unplaced_arguments xs)
  unplaced_term (TermForm.quantified q p vars x) =
      TermForm.quantified q nowhere (unplaced_variables vars) (unplaced_term x)

  pub unplaced_arguments : ArgumentForms → ArgumentForms
  unplaced_arguments no_arguments = no_arguments
  unplaced_arguments (argument p x xs) = argument nowhere (unplaced_term x) (unplaced_arguments xs)

abbrev pub unplaced_instance : InstanceForm → InstanceForm
unplaced_instance i =
    record { name = unplaced_name i.name; arguments = unplaced_arguments i.arguments }

abbrev pub unplaced_formula : FormulaForm → FormulaForm
unplaced_formula (FormulaForm.constant p value) = FormulaForm.constant nowhere value
unplaced_formula (FormulaForm.val p x) = FormulaForm.val nowhere (unplaced_term x)
unplaced_formula (FormulaForm.instance i) = FormulaForm.instance (unplaced_instance i)
unplaced_formula (FormulaForm.negation p x) = FormulaForm.negation nowhere (unplaced_formula x)
unplaced_formula (FormulaForm.connected c p x y) =
    FormulaForm.connected c nowhere (unplaced_formula x) (unplaced_formula y)
unplaced_formula (FormulaForm.quantified q p vars x) =
    FormulaForm.quantified q nowhere (unplaced_variables vars) (unplaced_formula x)

abbrev pub unplaced_recogniser : Option Named → Option Named
unplaced_recogniser None = None
unplaced_recogniser (Some n) = Some (unplaced_name n)

abbrev pub unplaced_enumerator : EnumeratorForm → EnumeratorForm
unplaced_enumerator e =
    record { name = unplaced_name e.name; recogniser = unplaced_recogniser e.recogniser }

abbrev pub unplaced_sort : SortForm → SortForm
unplaced_sort (struct enumerators) = struct (map unplaced_enumerator enumerators)
unplaced_sort (alias target) = alias (unplaced_name target)

abbrev pub unplaced_declaration : SortDeclarationForm → SortDeclarationForm
unplaced_declaration d = record { name = unplaced_name d.name; sort = unplaced_sort d.sort }

abbrev pub unplaced_range : RangeForm → RangeForm
unplaced_range r = record r { place = nowhere }

abbrev pub unplaced_equation : EquationForm → EquationForm
unplaced_equation e = record {
  sign = e.sign;
  name = unplaced_name e.name;
  parameters = unplaced_variables e.parameters;
  right = unplaced_formula e.right;
}

abbrev pub unplaced : SpecForm → SpecForm
unplaced s = record {
  sorts = map unplaced_declaration s.sorts;
  ranges = map unplaced_range s.ranges;
  equations = map unplaced_equation s.equations;
  initial = unplaced_instance s.initial;
}
