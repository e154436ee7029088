-- What a syntax tree says, without boxes and vectors. A chain of operators is folded to nested
-- binary nodes, and each variable stands with its sort.
use Rattle.std.specs.Prelude.{ℕ, ℤ, Bool, List, [], ◌∷◌, map, flat_map, string_bytes, Option, Some, None}
use Rattle.pb_fixpoint.specs.declared.Sign.{Sign}
use Rattle.pb_text_tree.specs.declared.place.Place.{Place}
use Rattle.pb_text_tree.specs.declared.operator.Connective.{Connective}
use Rattle.pb_text_tree.specs.declared.operator.Comparison.{Comparison}
use Rattle.pb_text_tree.specs.declared.operator.Arithmetic.{Arithmetic}
use Rattle.pb_text_tree.specs.declared.operator.Quantifier.{Quantifier}
use Rattle.pb_text_tree.specs.declared.name.Name as declared_name
use Rattle.pb_text_tree.specs.declared.variable.Variables as declared_variables
use Rattle.pb_text_tree.specs.declared.term.Term as term
use Rattle.pb_text_tree.specs.declared.term.Term.{Term, Row_of-TermLink, end_of-TermLink, more_of-TermLink, Row_of-ArithmeticLink, end_of-ArithmeticLink, more_of-ArithmeticLink, Row_of-Argument, end_of-Argument, more_of-Argument}
use Rattle.pb_text_tree.specs.declared.term.TermLink.{TermLink}
use Rattle.pb_text_tree.specs.declared.term.ArithmeticLink.{ArithmeticLink}
use Rattle.pb_text_tree.specs.declared.term.Argument.{Argument}
use Rattle.pb_text_tree.specs.declared.formula.Formula as formula
use Rattle.pb_text_tree.specs.declared.formula.Formula.{Formula, Row_of-Link, end_of-Link, more_of-Link}
use Rattle.pb_text_tree.specs.declared.formula.Link.{Link}
use Rattle.pb_text_tree.specs.declared.formula.Instance as declared_instance
use Rattle.pb_text_tree.specs.declared.sort.Enumerator as declared_enumerator
use Rattle.pb_text_tree.specs.declared.sort.Sort as declared_sort
use Rattle.pb_text_tree.specs.declared.sort.Sort.TheVariants as sort
use Rattle.pb_text_tree.specs.declared.sort.SortDeclaration as declared_declaration
use Rattle.pb_text_tree.specs.declared.sort.Range as declared_range
use Rattle.pb_text_tree.specs.declared.spec.Equation as declared_equation
use Rattle.pb_text_tree.specs.declared.spec.Spec as declared_spec

-- a name by its bytes, and where it stands
pub record Named : Type 0 where
  pub place : Place
  pub text : List ℕ

-- a data variable with its sort
pub record VariableForm : Type 0 where
  pub name : Named
  pub sort : Named

-- ---- data terms

-- The place of a binary node is that of its operator, the place of a quantified one that of its
-- quantifier.
mutual
  pub data TermForm : Type 0 where
    constant : Place → Bool → TermForm
    number : Place → ℕ → TermForm
    name : Named → TermForm
    not : Place → TermForm → TermForm
    negative : Place → TermForm → TermForm
    connected : Connective → Place → TermForm → TermForm → TermForm
    compared : Comparison → Place → TermForm → TermForm → TermForm
    computed : Arithmetic → Place → TermForm → TermForm → TermForm
    application : Named → ArgumentForms → TermForm
    quantified : Quantifier → Place → List VariableForm → TermForm → TermForm

  -- arguments, each with the place of its first token
  pub data ArgumentForms : Type 0 where
    no_arguments : ArgumentForms
    argument : Place → TermForm → ArgumentForms → ArgumentForms

-- ---- formulas

-- a predicate variable with its arguments
pub record InstanceForm : Type 0 where
  pub name : Named
  pub arguments : ArgumentForms

pub data FormulaForm : Type 0 where
  constant : Place → Bool → FormulaForm
  val : Place → TermForm → FormulaForm
  instance : InstanceForm → FormulaForm
  negation : Place → FormulaForm → FormulaForm
  connected : Connective → Place → FormulaForm → FormulaForm → FormulaForm
  quantified : Quantifier → Place → List VariableForm → FormulaForm → FormulaForm

-- ---- texts

pub record EnumeratorForm : Type 0 where
  pub name : Named
  pub recogniser : Option Named

pub data SortForm : Type 0 where
  struct : List EnumeratorForm → SortForm
  alias : Named → SortForm

pub record SortDeclarationForm : Type 0 where
  pub name : Named
  pub sort : SortForm

-- the carrier of an integer sort, both bounds within it
pub record RangeForm : Type 0 where
  pub place : Place
  pub name : List ℕ
  pub low : ℤ
  pub high : ℤ

pub record EquationForm : Type 0 where
  pub sign : Sign
  pub name : Named
  pub parameters : List VariableForm
  pub right : FormulaForm

-- its equations, the earlier ones dominating, and the instance that is asked for
pub record SpecForm : Type 0 where
  pub sorts : List SortDeclarationForm
  pub ranges : List RangeForm
  pub equations : List EquationForm
  pub initial : InstanceForm

-- ---- chains

-- operands of one connective, read to the right: first c (operand c (operand ..))
abbrev pub chained : {F : Type 0} → (Place → F → F → F) → F → List (Place × F) → F
chained join first [] = first
chained join first (link ∷ links) = join link.0 first (chained join link.1 links)

-- operands of arithmetic, read to the left: ((first o operand) o operand) ..
abbrev pub calculated : TermForm → List (Arithmetic × Place × TermForm) → TermForm
calculated first [] = first
calculated first ((o, place, operand) ∷ links) =
    calculated (TermForm.computed o place first operand) links

-- ---- what the parts of a tree say

abbrev pub named : declared_name.Name → Named
named n = record { place = n.place; text = string_bytes n.text }

-- variables, each with its sort
abbrev pub variables_form : declared_variables.Variables → List VariableForm
variables_form group =
    map (λ n. record { name = named n; sort = named group.sort }) group.names.items

abbrev pub variable_forms : List declared_variables.Variables → List VariableForm
variable_forms groups = flat_map variables_form groups

abbrev mutual
  pub term_form : Term → TermForm
  term_form (term.Constant place value) = TermForm.constant place value
  term_form (term.Number place value) = TermForm.number place value
  term_form (term.Name n) = TermForm.name (named n)
  term_form (term.Not' place p operand) = TermForm.not place (term_form operand)
  term_form (term.Negative' place p operand) = TermForm.negative place (term_form operand)
  term_form (term.Chain' connective p first shape row) =
      chained (TermForm.connected connective) (term_form first) (term_links_in row)
  term_form (term.Comparison' place comparison p left q right) =
      TermForm.compared comparison place (term_form left) (term_form right)
  term_form (term.Arithmetic' p first shape row) =
      calculated (term_form first) (arithmetic_links_in row)
  term_form (term.Application' function shape row) =
      TermForm.application (named function) (arguments_in row)
  term_form (term.Quantified' place quantifier variables p body) =
      TermForm.quantified quantifier place (variable_forms variables.items) (term_form body)

  pub term_links_in : {m : _} → Row_of-TermLink m → List (Place × TermForm)
  term_links_in end_of-TermLink = []
  term_links_in (more_of-TermLink place operand row) =
      (place, term_form operand) ∷ term_links_in row

  pub arithmetic_links_in : {m : _} → Row_of-ArithmeticLink m → List (Arithmetic × Place × TermForm)
  arithmetic_links_in end_of-ArithmeticLink = []
  arithmetic_links_in (more_of-ArithmeticLink place operator operand row) =
      (operator, place, term_form operand) ∷ arithmetic_links_in row

  pub arguments_in : {m : _} → Row_of-Argument m → ArgumentForms
  arguments_in end_of-Argument = no_arguments
  arguments_in (more_of-Argument place operand row) =
      argument place (term_form operand) (arguments_in row)

-- the links of a chain, and arguments, as lists
abbrev pub term_link : TermLink → Place × TermForm
term_link link = (link.place, term_form link.operand)

abbrev pub term_links : List TermLink → List (Place × TermForm)
term_links = map term_link

abbrev pub arithmetic_link : ArithmeticLink → Arithmetic × Place × TermForm
arithmetic_link link = (link.operator, link.place, term_form link.operand)

abbrev pub arithmetic_links : List ArithmeticLink → List (Arithmetic × Place × TermForm)
arithmetic_links = map arithmetic_link

abbrev pub argument_forms : List Argument → ArgumentForms
argument_forms [] = no_arguments
argument_forms (a ∷ arguments) = argument a.place (term_form a.term) (argument_forms arguments)

abbrev pub instance_form : declared_instance.Instance → InstanceForm
instance_form i = record { name = named i.name; arguments = argument_forms i.arguments.items }

abbrev mutual
  pub formula_form : Formula → FormulaForm
  formula_form (formula.Constant place value) = FormulaForm.constant place value
  formula_form (formula.Value place x) = FormulaForm.val place (term_form x)
  formula_form (formula.Instance i) = FormulaForm.instance (instance_form i)
  formula_form (formula.Negation' place p operand) =
      FormulaForm.negation place (formula_form operand)
  formula_form (formula.Chain' connective p first shape row) =
      chained (FormulaForm.connected connective) (formula_form first) (links_in row)
  formula_form (formula.Quantified' place quantifier variables p body) =
      FormulaForm.quantified quantifier place (variable_forms variables.items) (formula_form body)

  pub links_in : {m : _} → Row_of-Link m → List (Place × FormulaForm)
  links_in end_of-Link = []
  links_in (more_of-Link place operand row) = (place, formula_form operand) ∷ links_in row

abbrev pub link_form : Link → Place × FormulaForm
link_form link = (link.place, formula_form link.operand)

abbrev pub link_forms : List Link → List (Place × FormulaForm)
link_forms = map link_form

abbrev pub recogniser_form : Option declared_name.Name → Option Named
recogniser_form None = None
recogniser_form (Some n) = Some (named n)

abbrev pub enumerator_form : declared_enumerator.Enumerator → EnumeratorForm
enumerator_form e = record { name = named e.name; recogniser = recogniser_form e.recogniser }

abbrev pub sort_form : declared_sort.Sort → SortForm
sort_form (sort.Struct enumerators) = struct (map enumerator_form enumerators.items)
sort_form (sort.Alias target) = alias (named target)

abbrev pub sort_declaration_form : declared_declaration.SortDeclaration → SortDeclarationForm
sort_declaration_form d = record { name = named d.name; sort = sort_form d.sort }

abbrev pub range_form : declared_range.Range → RangeForm
range_form r = record { place = r.place; name = string_bytes r.name; low = r.low; high = r.high }

abbrev pub equation_form : declared_equation.Equation → EquationForm
equation_form e =
    record {
      sign = e.sign;
      name = named e.name;
      parameters = variable_forms e.parameters.items;
      right = formula_form e.right;
    }

abbrev pub spec_form : declared_spec.Spec → SpecForm
spec_form s = record {
  sorts = map sort_declaration_form s.sorts.items;
  ranges = map range_form s.ranges.items;
  equations = map equation_form s.equations.items;
  initial = instance_form s.initial;
}
