-- The labelled transition system of a model: its states, and where its steps lead
-- (Groote and Mousavi 2014).
use Rattle.std.specs.Prelude.{ℕ, Bool, true, not, ◌||◌, if◌then◌else◌, List, [], ◌∷◌, map, filter}
use Rattle.std.specs.Prelude.{flat_map, Option, Some, None}
use Rattle.pb_base_values.specs.Carrier.{Value, Carrier, Tuple, is_within, tuple_count, tuples}
use Rattle.pb_text_meaning.specs.Syntax.{Name, same_name, Variable, Term, NoTerms, Spec}
use Rattle.pb_text_meaning.specs.Value.{is_true, value, values}
use Rattle.pb_text_meaning.specs.Value as data_value
use Rattle.pb_text_meaning.specs.Formula.{carriers_of}
use Rattle.pb_text_meaning.specs.Meaning.{assigned}
use Rattle.pb_model_meaning.specs.Syntax.{Assignment, Step, StepSet, Model}

-- ---- states

-- a value for each state variable, in order
abbrev pub State : Type 0
State = Tuple

-- the sorts and ranges of a model, as those of a text without equations
abbrev pub data_of : Model → Spec
data_of m = record {
  sorts = m.sorts;
  ranges = m.ranges;
  equations = [];
  initial = [];
  arguments = NoTerms;
}

abbrev pub state_carriers : Model → List Carrier
state_carriers m = carriers_of (data_of m) m.variables

-- each value is in its variable's carrier
abbrev pub is_state : Model → State → Bool
is_state m s = is_within (state_carriers m) s

abbrev pub state_count : Model → ℕ
state_count m = tuple_count (state_carriers m)

abbrev pub initial_state : Model → State
initial_state m = values (data_of m) [] m.initial

-- ---- steps

-- what names stand for at a state, where a step's own variables have these values
abbrev pub in_scope : Model → State → Step → Tuple → data_value.Assignment
in_scope m s a own = assigned a.variables own (assigned m.variables s [])

abbrev pub is_enabled : Model → State → Step → Tuple → Bool
is_enabled m s a own = is_true (value (data_of m) (in_scope m s a own) a.guard)

-- the term that is assigned to a variable, if one is
abbrev pub assigned_term : List Assignment → Name → Option Term
assigned_term [] x = None
assigned_term (a ∷ assignments) x =
    if same_name a.variable x then Some a.term else assigned_term assignments x

-- the value of the assigned term, else the value before
abbrev pub value_after : (Term → Value) → Option Term → Value → Value
value_after evaluate (Some x) v = evaluate x
value_after evaluate None v = v

-- the state after all assignments at once
abbrev pub state_after : (Term → Value) → List Assignment → List Variable → State → State
state_after evaluate assignments (x ∷ variables) (v ∷ s) =
    value_after evaluate (assigned_term assignments x.name) v ∷
    state_after evaluate assignments variables s
state_after evaluate assignments variables s = []

-- each term is evaluated in the old state
abbrev pub next_state : Model → State → Step → Tuple → State
next_state m s a own =
    state_after (value (data_of m) (in_scope m s a own)) a.assignments m.variables s

-- where a step leads from a state: for all values of its own variables at which the guard is true
abbrev pub successors_by : Model → State → Step → List State
successors_by m s a =
    map (next_state m s a)
    (filter (is_enabled m s a) (tuples (carriers_of (data_of m) a.variables)))

-- ---- sets of steps

abbrev pub has_step : StepSet → Name → Bool
has_step StepSet.All x = true
has_step (StepSet.Only y) x = same_name y x
has_step (StepSet.Complement A) x = not (has_step A x)
has_step (StepSet.Union A B) x = has_step A x || has_step B x

abbrev pub steps_in : Model → StepSet → List Step
steps_in m A = filter (λ (a : Step). has_step A a.name) m.steps

-- the states to which the steps of a set lead
abbrev pub successors : Model → StepSet → State → List State
successors m A s = flat_map (successors_by m s) (steps_in m A)
