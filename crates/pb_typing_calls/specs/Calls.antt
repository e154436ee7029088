-- The instance that a call of a formula names, and the place of the first call by which an
-- equation's right side names an instance.
use Rattle.std.specs.Prelude.{◌==◌, Bool, true, false, not, ◌&&◌, ◌||◌, [], ◌∷◌}
use Rattle.std.specs.Prelude.{Option, Some, None}
use Rattle.std.specs.Cmp.Lexicographic.{pointwise}
use Rattle.std.specs.List.{find, slice_get}
use Rattle.std.specs.Option.{option_map}
use Rattle.std.specs.Ordering.{int_eq}
use Rattle.pb_fixpoint.specs.Solution.{empty}
use Rattle.pb_text_tree.specs.declared.place.Place.{Place}
use Rattle.pb_text_tree.specs.declared.operator.Connective.{Connective}
use Rattle.pb_text_tree.specs.declared.operator.Connective.TheVariants.{And, Or, Implies}
use Rattle.pb_text_tree.specs.declared.operator.Quantifier.TheVariants.{Exists}
use Rattle.pb_text_tree.specs.Form.{InstanceForm, FormulaForm, EquationForm, SpecForm}
use Rattle.pb_base_values.specs.Carrier.{Tuple}
use Rattle.pb_sorts.specs.Instance as numbered
use Rattle.pb_text_meaning.specs.Syntax.{Formula, Spec, same_name}
use Rattle.pb_text_meaning.specs.Value.{Assignment, quantified, values}
use Rattle.pb_text_meaning.specs.Formula.{Instance, truth}
use Rattle.pb_text_meaning.specs.Meaning.{assigned}
use Rattle.pb_text_meaning.specs.Erase.{erase, erased_arguments, erased_formula, erased_variables}
use Rattle.pb_typing_tree.specs.Calls.{calls_in}
use Rattle.pb_typing_tree.specs.Expansion.{expanded}
use Rattle.pb_typing_calls.specs.declared.side.Side.{Side}
use Rattle.pb_typing_calls.specs.declared.side.Side.TheVariants.{Left, Right}

-- A formula that is compiled to one test: a truth value or a data term without quantifiers, maybe
-- negated. It is given as it is compiled, its data terms with quantifiers being formulas
-- (`expanded`).
abbrev pub is_test : Formula → Bool
is_test (Formula.Truth b) = true
is_test (Formula.Val x) = true
is_test (Formula.Not f) = is_test f
is_test (Formula.And f g) = false
is_test (Formula.Or f g) = false
is_test (Formula.Implies f g) = false
is_test (Formula.Quantified q [] f) = is_test f
is_test (Formula.Quantified q (x ∷ xs) f) = false
is_test (Formula.Call X es) = false

-- whether an operand of this truth decides what it is connected to, whatever the other one is
abbrev pub decides : Connective → Side → Bool → Bool
decides And side x = not x
decides Or side x = x
decides Implies Left x = not x
decides Implies Right x = x

-- an operand is a test, and decides what it is connected to
abbrev pub is_deciding_test : Spec → Assignment → Connective → Side → FormulaForm → Bool
is_deciding_test spec a c side f =
    is_test (expanded (erased_formula f))
    && decides c side (truth spec a empty (erased_formula f))

abbrev pub same_place : Place → Place → Bool
same_place p q = (p.line == q.line) && (p.column == q.column)

-- a call names an instance: it has its name, and its arguments have its values
abbrev pub names : Spec → Assignment → InstanceForm → Instance → Bool
names spec a call i =
    same_name call.name.text i.name
    && pointwise int_eq (values spec a (erased_arguments call.arguments)) i.values

-- Under an assignment a formula makes the call at a place, and the call names an instance. A test
-- is evaluated before what it is connected to, on whichever side it stands: where it decides, the
-- other operand makes no call. A quantifier's body is taken for each value of its variables.
abbrev pub makes_call : Spec → Instance → Place → Assignment → FormulaForm → Bool
makes_call spec i place a (FormulaForm.constant p b) = false
makes_call spec i place a (FormulaForm.val p x) = false
makes_call spec i place a (FormulaForm.instance call) =
    same_place call.name.place place && names spec a call i
makes_call spec i place a (FormulaForm.negation p f) = makes_call spec i place a f
makes_call spec i place a (FormulaForm.connected c p f g) =
    (not (is_deciding_test spec a c Right g) && makes_call spec i place a f)
    || (not (is_deciding_test spec a c Left f) && makes_call spec i place a g)
makes_call spec i place a (FormulaForm.quantified q p xs f) =
    quantified spec Exists (erased_variables xs) (λ b. makes_call spec i place b f) a

-- the place of the first call that a formula makes and that names an instance
abbrev pub first_call : Spec → Instance → Assignment → FormulaForm → Option Place
first_call spec i a f = find (λ place. makes_call spec i place a f) (calls_in f)

-- an instance by the name of its equation
abbrev pub instance_named : SpecForm → numbered.Instance → Option Instance
instance_named text i =
    option_map (λ (X : EquationForm). record { name = X.name.text; values = i.values })
    (slice_get text.equations i.equation)

-- the first call where an equation's parameters have these values
abbrev pub first_call_at : Spec → Option EquationForm → Tuple → Option Instance → Option Place
first_call_at spec None vs called = None
first_call_at spec (Some X) vs None = None
first_call_at spec (Some X) vs (Some i) =
    first_call spec i (assigned (erased_variables X.parameters) vs []) X.right

-- The place of the first call by which an instance's right side names another instance, in a text
-- of the equations that both are of.
abbrev pub call_place : SpecForm → numbered.Instance → numbered.Instance → Option Place
call_place text caller called =
    first_call_at (erase text) (slice_get text.equations caller.equation) caller.values
    (instance_named text called)
