-- The calls that a formula makes, in the order in which they are written: where each stands, for
-- which values of the quantified variables around it, and the instance that it names.
use Rattle.std.specs.Prelude.{ℕ, Bool, true, false, ◌&&◌, if◌then◌else◌, List, [], ◌∷◌, ◌++◌}
use Rattle.std.specs.Prelude.{map, flat_map, Option, Some, None}
use Rattle.std.specs.List.{position_or_len, slice_get}
use Rattle.pb_fixpoint.specs.Solution.{empty}
use Rattle.pb_text_tree.specs.declared.place.Place.{Place}
use Rattle.pb_text_tree.specs.declared.operator.Connective.{Connective}
use Rattle.pb_text_tree.specs.Form.{InstanceForm, FormulaForm, EquationForm, SpecForm}
use Rattle.pb_base_values.specs.Carrier.{Tuple, Value}
use Rattle.pb_sorts.specs.Instance.{Instance}
use Rattle.pb_text_meaning.specs.Syntax.{Name, same_name, Variable, Equation, Spec}
use Rattle.pb_text_meaning.specs.Sorts.{carrier_of}
use Rattle.pb_text_meaning.specs.Value.{Assignment, values}
use Rattle.pb_text_meaning.specs.Formula.{truth}
use Rattle.pb_text_meaning.specs.Meaning.{assigned}
use Rattle.pb_text_meaning.specs.Erase.{erase, erased_arguments, erased_formula, erased_variables}
use Rattle.pb_typing_calls.specs.Calls.{decides}
use Rattle.pb_typing_calls.specs.declared.side.Side.TheVariants.{Left}

-- A call that is made: where it stands, the values of the quantified variables around it, outermost
-- first, and the instance that it names. Its values need not be in the parameters' carriers.
pub record MadeCall : Type 0 where
  pub place : Place
  pub own : Tuple
  pub instance : Instance

abbrev pub has_no_call : FormulaForm → Bool
has_no_call (FormulaForm.constant p b) = true
has_no_call (FormulaForm.val p x) = true
has_no_call (FormulaForm.instance call) = false
has_no_call (FormulaForm.negation p f) = has_no_call f
has_no_call (FormulaForm.connected c p f g) = has_no_call f && has_no_call g
has_no_call (FormulaForm.quantified q p xs f) = has_no_call f

-- a first operand without calls decides what it is connected to, whatever the second one is
abbrev pub decides_alone : Spec → Assignment → Connective → FormulaForm → Bool
decides_alone spec a c f = has_no_call f && decides c Left (truth spec a empty (erased_formula f))

-- the place of the first equation of a name; where there is none, of one behind the last
abbrev pub equation_position : Spec → Name → ℕ
equation_position spec x = position_or_len (λ (X : Equation). same_name X.name x) spec.equations

-- the instance that a call names
abbrev pub instance_of_call : Spec → Assignment → InstanceForm → Instance
instance_of_call spec a call = record {
  equation = equation_position spec call.name.text;
  values = values spec a (erased_arguments call.arguments);
}

-- a call behind a quantifier, for a value of its variable
abbrev pub with_value : Value → MadeCall → MadeCall
with_value v call = record {
  place = call.place;
  own = v ∷ call.own;
  instance = call.instance;
}

-- the calls for each value of some variables, the last variable fastest
abbrev pub for_values : Spec → List Variable → (Assignment → List MadeCall) → Assignment
    → List MadeCall
for_values spec [] g a = g a
for_values spec (x ∷ xs) g a =
    flat_map (λ v. map (with_value v) (for_values spec xs g ((x.name, v) ∷ a)))
    (carrier_of spec x.sort)

-- The calls that a formula makes under an assignment. Behind a first operand that decides alone no
-- call is made; a quantifier's body is taken for each value of its variables.
abbrev pub made_calls : Spec → Assignment → FormulaForm → List MadeCall
made_calls spec a (FormulaForm.constant p b) = []
made_calls spec a (FormulaForm.val p x) = []
made_calls spec a (FormulaForm.instance call) =
    record { place = call.name.place; own = []; instance = instance_of_call spec a call } ∷ []
made_calls spec a (FormulaForm.negation p f) = made_calls spec a f
made_calls spec a (FormulaForm.connected c p f g) =
    made_calls spec a f ++ (if decides_alone spec a c f then [] else made_calls spec a g)
made_calls spec a (FormulaForm.quantified q p xs f) =
    for_values spec (erased_variables xs) (λ b. made_calls spec b f) a

-- the calls where an equation's parameters have these values
abbrev pub equation_calls : Spec → Option EquationForm → Tuple → List MadeCall
equation_calls spec None vs = []
equation_calls spec (Some X) vs =
    made_calls spec (assigned (erased_variables X.parameters) vs []) X.right

-- The calls that an instance's right side makes, in a text of the equation that it is of; none
-- where there is no such equation.
abbrev pub calls_at : SpecForm → Instance → List MadeCall
calls_at text i = equation_calls (erase text) (slice_get text.equations i.equation) i.values
