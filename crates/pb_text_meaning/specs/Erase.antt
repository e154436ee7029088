-- What a syntax tree says: its abstract syntax, without places.
use Rattle.std.specs.Prelude.{List, map, Option, Some, None}
use Rattle.pb_text_tree.specs.declared.operator.Connective.{Connective}
use Rattle.pb_text_tree.specs.declared.operator.Connective.TheVariants as connective
use Rattle.pb_text_tree.specs.declared.operator.Comparison.{Comparison}
use Rattle.pb_text_tree.specs.declared.operator.Comparison.TheVariants as comparison
use Rattle.pb_text_tree.specs.declared.operator.Arithmetic.{Arithmetic}
use Rattle.pb_text_tree.specs.declared.operator.Arithmetic.TheVariants as arithmetic
use Rattle.pb_text_tree.specs.Form.{Named, VariableForm, TermForm, ArgumentForms, no_arguments, argument, FormulaForm, EnumeratorForm, SortForm, struct, alias, SortDeclarationForm, RangeForm, EquationForm, SpecForm}
use Rattle.pb_text_meaning.specs.Syntax.{Name, Variable, Operator, Term, Terms, Formula, Enumerator, Sort, SortDeclaration, Range, Equation, Spec}

abbrev pub of_connective : Connective → Operator
of_connective connective.And = Operator.And
of_connective connective.Or = Operator.Or
of_connective connective.Implies = Operator.Implies

abbrev pub of_comparison : Comparison → Operator
of_comparison comparison.Equal = Operator.Equal
of_comparison comparison.NotEqual = Operator.NotEqual
of_comparison comparison.Less = Operator.Less
of_comparison comparison.LessEqual = Operator.LessEqual
of_comparison comparison.Greater = Operator.Greater
of_comparison comparison.GreaterEqual = Operator.GreaterEqual

abbrev pub of_arithmetic : Arithmetic → Operator
of_arithmetic arithmetic.Plus = Operator.Plus
of_arithmetic arithmetic.Minus = Operator.Minus
of_arithmetic arithmetic.Times = Operator.Times
of_arithmetic arithmetic.Div = Operator.Div
of_arithmetic arithmetic.Mod = Operator.Mod

abbrev pub erased_variable : VariableForm → Variable
erased_variable x = record { name = x.name.text; sort = x.sort.text }

abbrev pub erased_variables : List VariableForm → List Variable
erased_variables = map erased_variable

abbrev mutual
  pub erased_term : TermForm → Term
  erased_term (TermForm.constant p b) = Term.Truth b
  erased_term (TermForm.number p n) = Term.Number n
  erased_term (TermForm.name x) = Term.Named x.text
  erased_term (TermForm.not p x) = Term.Not (erased_term x)
  erased_term (TermForm.negative p x) = Term.Negative (erased_term x)
  erased_term (TermForm.connected c p x y) =
      Term.Binary (of_connective c) (erased_term x) (erased_term y)
  erased_term (TermForm.compared c p x y) =
      Term.Binary (of_comparison c) (erased_term x) (erased_term y)
  erased_term (TermForm.computed o p x y) =
      Term.Binary (of_arithmetic o) (erased_term x) (erased_term y)
  erased_term (TermForm.application f xs) = Term.Apply f.text (erased_arguments xs)
  erased_term (TermForm.quantified q p xs x) =
      Term.Quantified q (erased_variables xs) (erased_term x)

  pub erased_arguments : ArgumentForms → Terms
  erased_arguments no_arguments = Terms.NoTerms
  erased_arguments (argument p x xs) = Terms.Then (erased_term x) (erased_arguments xs)

abbrev pub joined : Connective → Formula → Formula → Formula
joined connective.And f g = Formula.And f g
joined connective.Or f g = Formula.Or f g
joined connective.Implies f g = Formula.Implies f g

abbrev pub erased_formula : FormulaForm → Formula
erased_formula (FormulaForm.constant p b) = Formula.Truth b
erased_formula (FormulaForm.val p x) = Formula.Val (erased_term x)
erased_formula (FormulaForm.instance i) = Formula.Call i.name.text (erased_arguments i.arguments)
erased_formula (FormulaForm.negation p f) = Formula.Not (erased_formula f)
erased_formula (FormulaForm.connected c p f g) = joined c (erased_formula f) (erased_formula g)
erased_formula (FormulaForm.quantified q p xs f) =
    Formula.Quantified q (erased_variables xs) (erased_formula f)

abbrev pub erased_recogniser : Option Named → Option Name
erased_recogniser None = None
erased_recogniser (Some x) = Some x.text

abbrev pub erased_enumerator : EnumeratorForm → Enumerator
erased_enumerator e = record { name = e.name.text; recogniser = erased_recogniser e.recogniser }

abbrev pub erased_sort : SortForm → Sort
erased_sort (struct es) = Sort.Struct (map erased_enumerator es)
erased_sort (alias s) = Sort.Alias s.text

abbrev pub erased_declaration : SortDeclarationForm → SortDeclaration
erased_declaration d = record { name = d.name.text; sort = erased_sort d.sort }

abbrev pub erased_range : RangeForm → Range
erased_range r = record { name = r.name; low = r.low; high = r.high }

abbrev pub erased_equation : EquationForm → Equation
erased_equation X =
    record {
      sign = X.sign;
      name = X.name.text;
      parameters = erased_variables X.parameters;
      right = erased_formula X.right;
    }

-- a text, as a specification
abbrev pub erase : SpecForm → Spec
erase text = record {
  sorts = map erased_declaration text.sorts;
  ranges = map erased_range text.ranges;
  equations = map erased_equation text.equations;
  initial = text.initial.name.text;
  arguments = erased_arguments text.initial.arguments;
}
