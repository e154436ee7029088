-- Where each rule fails: all faults of terms and formulas, with their places.
use Rattle.std.specs.Prelude.{ℕ, zero, suc, pos, Bool, true, false, not, ◌==◌, List, [], ◌∷◌, ◌++◌, length, Option, Some, None}
use Rattle.pb_text_tree.specs.declared.place.Place.{Place}
use Rattle.pb_text_tree.specs.declared.operator.Connective.{Connective}
use Rattle.pb_text_tree.specs.declared.operator.Connective.TheVariants.{And, Or, Implies}
use Rattle.pb_text_tree.specs.Form.{Named, TermForm, ArgumentForms, no_arguments, argument, InstanceForm, FormulaForm, EquationForm, SpecForm}
use Rattle.pb_base_values.specs.Interval.{is_included, singleton, literals}
use Rattle.pb_base_values.specs.Operation.{Negation}
use Rattle.pb_text_meaning.specs.Syntax.{Variable, Equation, Spec}
use Rattle.pb_base_values.specs.Carrier.{Carrier, Value, contains}
use Rattle.pb_text_meaning.specs.Sorts.{carrier_of}
use Rattle.pb_text_meaning.specs.Value.{value}
use Rattle.pb_text_meaning.specs.Names.{is_declared}
use Rattle.pb_text_meaning.specs.Formula.{equation_named}
use Rattle.pb_text_meaning.specs.Erase.{of_comparison, of_arithmetic, erased_variables, erased_term, erased_arguments, erase}
use Rattle.pb_typing_declarations.specs.declared.fault.TypingRule.TheVariants as rule
use Rattle.pb_typing_declarations.specs.declared.fault.TypingFault.{TypingFault}
use Rattle.pb_typing_declarations.specs.Faults.{unless}
use Rattle.pb_typing_declarations.specs.Shapes.{Shape, sort_shape}
use Rattle.pb_typing_declarations.specs.Declarations.{variables_faults, declaration_faults}
use Rattle.pb_typing_rules.specs.Shapes.{may_be_truth, may_be_whole, may_be_alike, is_limited, unary_is_limited, OperatorKind, kind_of, accepts, divisor_is_positive, outcome_is_limited}
use Rattle.pb_typing_rules.specs.Functions.{Function, function_named, arity, takes, result_is_limited}
use Rattle.pb_typing_rules.specs.Scope.{Scope, outermost, bound, named_shape}
use Rattle.pb_typing_rules.specs.Term.{shape, shapes}
use Rattle.pb_typing_rules.specs.Formula.{count}

-- ---- data

-- a name in data that stands for nothing there (T01); a predicate variable's fails as such (T07)
abbrev pub unknown_faults : Spec → Named → List TypingFault
unknown_faults spec x =
    unless (not (is_declared spec.equations x.text)) rule.PredicateInData x.place
    ++ unless (is_declared spec.equations x.text) rule.UnknownName x.place

abbrev pub name_faults : Spec → Option Shape → Named → List TypingFault
name_faults spec None x = unknown_faults spec x
name_faults spec (Some s) x = unless (is_limited s) rule.LargeInterval x.place

abbrev pub negative_faults : Shape → Place → List TypingFault
negative_faults s p =
    unless (may_be_whole s) rule.WrongKind p
    ++ unless (unary_is_limited Negation s) rule.LargeInterval p

-- operands of the wrong kinds (T04), a divisor that may be below 1 (T09), or an interval beyond the
-- limits (T10)
abbrev pub operator_faults : OperatorKind → Shape → Shape → Place → List TypingFault
operator_faults o s t p =
    unless (accepts o s t) rule.WrongKind p
    ++ (unless (divisor_is_positive o t) rule.Divisor p
    ++ unless (outcome_is_limited o s t) rule.LargeInterval p)

-- arguments of the wrong kinds (T04) or an interval beyond the limits (T10), at the function's name
abbrev pub kind_faults : Function → List Shape → Place → List TypingFault
kind_faults g ss p =
    unless (takes g ss) rule.WrongKind p ++ unless (result_is_limited g ss) rule.LargeInterval p

-- T08: a function has as many arguments as it takes
abbrev pub function_faults : Spec → Option Function → List Shape → Named → List TypingFault
function_faults spec None ss f = unknown_faults spec f
function_faults spec (Some g) ss f =
    unless (length ss == arity g) rule.WrongCount f.place ++ kind_faults g ss f.place

-- T13: `stands` says whether a quantifier may stand here
abbrev mutual
  pub term_faults : Spec → Bool → Scope → TermForm → List TypingFault
  term_faults spec stands scope (TermForm.constant p b) = []
  term_faults spec stands scope (TermForm.number p n) =
      unless (is_included (singleton (pos n)) literals) rule.LargeInterval p
  term_faults spec stands scope (TermForm.name x) =
      name_faults spec (named_shape spec scope x.text) x
  term_faults spec stands scope (TermForm.not p x) =
      term_faults spec stands scope x
      ++ unless (may_be_truth (shape spec scope (erased_term x))) rule.WrongKind p
  term_faults spec stands scope (TermForm.negative p x) =
      term_faults spec false scope x ++ negative_faults (shape spec scope (erased_term x)) p
  term_faults spec stands scope (TermForm.connected c p x y) =
      term_faults spec stands scope x
      ++ (unless (may_be_truth (shape spec scope (erased_term x))) rule.WrongKind p
      ++ (term_faults spec stands scope y
      ++ unless (may_be_truth (shape spec scope (erased_term y))) rule.WrongKind p))
  term_faults spec stands scope (TermForm.compared c p x y) =
      term_faults spec false scope x
      ++ (term_faults spec false scope y
      ++ operator_faults (kind_of (of_comparison c)) (shape spec scope (erased_term x))
      (shape spec scope (erased_term y)) p)
  term_faults spec stands scope (TermForm.computed o p x y) =
      term_faults spec false scope x
      ++ (term_faults spec false scope y
      ++ operator_faults (kind_of (of_arithmetic o)) (shape spec scope (erased_term x))
      (shape spec scope (erased_term y)) p)
  term_faults spec stands scope (TermForm.application f xs) =
      terms_faults spec scope xs
      ++ function_faults spec (function_named spec f.text) (shapes spec scope (erased_arguments xs))
      f
  term_faults spec stands scope (TermForm.quantified q p xs x) =
      unless stands rule.QuantifierInData p
      ++ (variables_faults spec xs
      ++ (term_faults spec stands (bound spec (erased_variables xs) scope) x
      ++ unless (may_be_truth (shape spec (bound spec (erased_variables xs) scope) (erased_term x)))
      rule.WrongKind p))

  -- arguments, where no quantifier may stand
  pub terms_faults : Spec → Scope → ArgumentForms → List TypingFault
  terms_faults spec scope no_arguments = []
  terms_faults spec scope (argument p x xs) =
      term_faults spec false scope x ++ terms_faults spec scope xs

-- ---- formulas

-- arguments against parameters
abbrev pub argument_faults : Spec → Scope → ArgumentForms → List Variable → List TypingFault
argument_faults spec scope no_arguments xs = []
argument_faults spec scope (argument p e es) [] =
    term_faults spec false scope e ++ argument_faults spec scope es []
argument_faults spec scope (argument p e es) (x ∷ xs) =
    term_faults spec false scope e
    ++ (unless (may_be_alike (shape spec scope (erased_term e)) (sort_shape spec x.sort))
    rule.WrongKind p
    ++ argument_faults spec scope es xs)

-- a predicate variable that is declared stands under an even number of negations (T06), and has its
-- arguments (T08); one that isn't is only unknown (T01)
abbrev pub called_faults : Spec → Bool → Scope → ArgumentForms → Option Equation → Place
    → List TypingFault
called_faults spec even scope es None p =
    unless false rule.UnknownName p ++ argument_faults spec scope es []
called_faults spec even scope es (Some X) p =
    unless even rule.OddNegations p
    ++ (unless (count (erased_arguments es) == length X.parameters) rule.WrongCount p
    ++ argument_faults spec scope es X.parameters)

abbrev pub instance_faults : Spec → Bool → Scope → InstanceForm → List TypingFault
instance_faults spec even scope i =
    called_faults spec even scope i.arguments (equation_named spec.equations i.name.text)
    i.name.place

-- whether the negations around a left operand are even in number: the left side of => counts as
-- negated
abbrev pub left_parity : Connective → Bool → Bool
left_parity And even = even
left_parity Or even = even
left_parity Implies even = not even

-- the same of an operand in a chain that is read to the right, where so many operands stand behind
-- it
abbrev pub operand_parity : Connective → Bool → ℕ → Bool
operand_parity c even zero = even
operand_parity c even (suc behind) = left_parity c even

-- `even` says whether the negations around are even in number
abbrev pub formula_faults : Spec → Bool → Scope → FormulaForm → List TypingFault
formula_faults spec even scope (FormulaForm.constant p b) = []
formula_faults spec even scope (FormulaForm.val p x) =
    term_faults spec true scope x
    ++ unless (may_be_truth (shape spec scope (erased_term x))) rule.WrongKind p
formula_faults spec even scope (FormulaForm.instance i) = instance_faults spec even scope i
formula_faults spec even scope (FormulaForm.negation p f) = formula_faults spec (not even) scope f
formula_faults spec even scope (FormulaForm.connected c p f g) =
    formula_faults spec (left_parity c even) scope f ++ formula_faults spec even scope g
formula_faults spec even scope (FormulaForm.quantified q p xs f) =
    variables_faults spec xs ++ formula_faults spec even (bound spec (erased_variables xs) scope) f

-- ---- texts

abbrev pub right_faults : Spec → List EquationForm → List TypingFault
right_faults spec [] = []
right_faults spec (X ∷ E) =
    formula_faults spec true (bound spec (erased_variables X.parameters) outermost) X.right
    ++ right_faults spec E

-- Whether a parameter may have a value. A sort without values fails by itself, and has no carrier
-- that a value is outside of.
abbrev pub may_have : Carrier → Value → Bool
may_have [] v = true
may_have (w ∷ ws) v = contains (w ∷ ws) v

-- T11: arguments without variables: each value is in its parameter's carrier
abbrev pub value_faults : Spec → ArgumentForms → List Variable → List TypingFault
value_faults spec no_arguments xs = []
value_faults spec (argument p e es) [] = []
value_faults spec (argument p e es) (x ∷ xs) =
    unless (may_have (carrier_of spec x.sort) (value spec [] (erased_term e))) rule.OutsideCarrier p
    ++ value_faults spec es xs

abbrev pub parameters_named : Option Equation → List Variable
parameters_named None = []
parameters_named (Some X) = X.parameters

-- faults, and where there are none, other faults
abbrev pub and_then : List TypingFault → List TypingFault → List TypingFault
and_then [] others = others
and_then (f ∷ fs) others = f ∷ fs

-- the initial instance; its values only count where its arguments are well typed
abbrev pub initial_faults : Spec → InstanceForm → List TypingFault
initial_faults spec i =
    and_then (instance_faults spec true outermost i)
    (value_faults spec i.arguments (parameters_named (equation_named spec.equations i.name.text)))

-- all faults of a text that may declare so many instances: of its declarations, of its right sides
-- and of its initial instance
abbrev pub faults : (limit : ℕ) → SpecForm → List TypingFault
faults limit text =
    declaration_faults limit text
    ++ (right_faults (erase text) text.equations ++ initial_faults (erase text) text.initial)
