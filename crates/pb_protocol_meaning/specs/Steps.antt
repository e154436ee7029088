-- The labelled transition system of a protocol: its states, and where its steps lead. All
-- assignments of a step are made at once, as in guarded commands (Dijkstra 1975) and in Murphi
-- (Dill 1996): each is read in the old state.
use Rattle.std.specs.Prelude.{Bool, true, false, not, ◌&&◌, ◌||◌, if◌then◌else◌, List, [], ◌∷◌}
use Rattle.std.specs.Prelude.{◌++◌, map, filter, flat_map, length, drop, Option, Some, None}
use Rattle.std.specs.Ordering.{int_eq}
use Rattle.pb_base_values.specs.Carrier.{Value, Carrier, Tuple, is_within, tuples}
use Rattle.pb_text_meaning.specs.Syntax.{Name, same_name, Term, Terms, Spec}
use Rattle.pb_text_meaning.specs.Sorts.{carrier_of}
use Rattle.pb_text_meaning.specs.Value.{is_true}
use Rattle.pb_text_meaning.specs.Value as data_value
use Rattle.pb_text_meaning.specs.Formula.{carriers_of}
use Rattle.pb_text_meaning.specs.Meaning.{assigned}
use Rattle.pb_model_meaning.specs.Steps.{State}
use Rattle.pb_protocol_meaning.specs.Syntax.{StateVariable, Assignment, Step, StepSet, Protocol}
use Rattle.pb_protocol_meaning.specs.Meaning.{Functions, no_functions, meaning, meanings, for_each}
use Rattle.pb_protocol_meaning.specs.Meaning.{are_as_many, with_definitions, same_values}
use Rattle.pb_protocol_meaning.specs.Meaning.{all_inside, value_beside}

-- ---- states

-- the sorts and ranges of a protocol, as those of a text without equations
abbrev pub data_of : Protocol → Spec
data_of m = record {
  sorts = m.sorts;
  ranges = m.ranges;
  equations = [];
  initial = [];
  arguments = Terms.NoTerms;
}

-- the tuples of values of a variable's indices, the last fastest; without indices there is one
abbrev pub indices_of : Spec → StateVariable → List Tuple
indices_of spec y = tuples (carriers_of spec y.indices)

-- a state variable at one tuple of values of its indices
pub record Position : Type 0 where
  pub variable : Name
  pub index : Tuple
  pub sort : Name

abbrev pub positions_of : Spec → StateVariable → List Position
positions_of spec y =
    map (λ (index : Tuple). record { variable = y.name; index = index; sort = y.sort })
    (indices_of spec y)

-- a state has a value for each position: variable by variable, as they are declared
abbrev pub positions : Protocol → List Position
positions m = flat_map (positions_of (data_of m)) m.variables

abbrev pub state_carriers : Protocol → List Carrier
state_carriers m = map (λ (p : Position). carrier_of (data_of m) p.sort) (positions m)

-- each value is in its sort's carrier
abbrev pub is_state : Protocol → State → Bool
is_state m s = is_within (state_carriers m) s

-- ---- terms at a state

-- a variable whose values stand first in a state: a function of its indices
abbrev pub function_at : Spec → StateVariable → State → Tuple → Value
function_at spec y s index =
    value_beside (indices_of spec y) s (all_inside (carriers_of spec y.indices) index)

-- the state is cut into the values of each variable
abbrev pub variables_at : Spec → List StateVariable → State → Functions
variables_at spec [] s x index = None
variables_at spec (y ∷ ys) s x index =
    if same_name y.name x && are_as_many y.indices index then Some (function_at spec y s index)
    else variables_at spec ys (drop (length (indices_of spec y)) s) x index

abbrev pub functions_at : Protocol → State → Functions
functions_at m s =
    with_definitions (data_of m) (variables_at (data_of m) m.variables s) m.definitions

-- the value of a term at a state, where further names stand for values
abbrev pub value_at : Protocol → State → data_value.Assignment → Term → Value
value_at m s c x = meaning (data_of m) (functions_at m s) c x

abbrev pub values_at : Protocol → State → data_value.Assignment → Terms → Tuple
values_at m s c xs = meanings (data_of m) (functions_at m s) c xs

-- ---- where there is no state

-- definitions alone: a term of `init` or in a set of steps names no state variable
abbrev pub functions_at_start : Protocol → Functions
functions_at_start m = with_definitions (data_of m) no_functions m.definitions

-- the term of each variable, at each tuple of values of its indices
abbrev pub initial_values : Spec → Functions → List StateVariable → Terms → State
initial_values spec functions (y ∷ ys) (Terms.Then x xs) =
    map (λ (index : Tuple). meaning spec functions (assigned y.indices index []) x)
    (indices_of spec y) ++ initial_values spec functions ys xs
initial_values spec functions [] xs = []
initial_values spec functions (y ∷ ys) Terms.NoTerms = []

abbrev pub initial_state : Protocol → State
initial_state m = initial_values (data_of m) (functions_at_start m) m.variables m.initial

-- ---- steps

-- a variable gets a value at an index
pub record Update : Type 0 where
  pub variable : Name
  pub index : Tuple
  pub value : Value

-- what an assignment does for these values of names
abbrev pub update_by : Spec → Functions → Assignment → data_value.Assignment → Update
update_by spec functions a c = record {
  variable = a.variable;
  index = meanings spec functions c a.index;
  value = meaning spec functions c a.term;
}

-- and for each tuple of values of its variables, in order
abbrev pub updates_by : Spec → Functions → data_value.Assignment → Assignment → List Update
updates_by spec functions c a = for_each spec a.variables (update_by spec functions a) c

-- what assignments do, one behind the other
abbrev pub updates : Spec → Functions → data_value.Assignment → List Assignment → List Update
updates spec functions c assignments = flat_map (updates_by spec functions c) assignments

-- what a variable is at an index after all updates at once; of several at one index the last counts
abbrev pub value_after : List Update → Name → Tuple → Value → Value
value_after [] x index before = before
value_after (u ∷ others) x index before =
    let here = same_name u.variable x && same_values u.index index in
    value_after others x index (if here then u.value else before)

-- the values at these positions after updates, from those before
abbrev pub state_after : List Update → List Position → State → State
state_after us (p ∷ ps) (v ∷ s) =
    value_after us p.variable p.index v ∷ state_after us ps s
state_after us [] s = []
state_after us (p ∷ ps) [] = []

-- a step's own variables stand for these values
abbrev pub own_values : Step → Tuple → data_value.Assignment
own_values a own = assigned a.variables own []

abbrev pub is_enabled : Protocol → State → Step → Tuple → Bool
is_enabled m s a own = is_true (value_at m s (own_values a own) a.guard)

abbrev pub next_state : Protocol → State → Step → Tuple → State
next_state m s a own =
    state_after (updates (data_of m) (functions_at m s) (own_values a own) a.assignments)
    (positions m) s

-- ---- sets of steps

-- whether a step's own values are those that are named; a term may name the variables of
-- quantifiers around and definitions, and not the state
abbrev pub fits : Protocol → data_value.Assignment → List (Option Term) → Tuple → Bool
fits m c [] [] = true
fits m c (Some x ∷ xs) (v ∷ vs) =
    int_eq (meaning (data_of m) (functions_at_start m) c x) v && fits m c xs vs
fits m c (None ∷ xs) (v ∷ vs) = fits m c xs vs
fits m c [] (v ∷ vs) = false
fits m c (x ∷ xs) [] = false

abbrev pub has_step : Protocol → data_value.Assignment → StepSet → Name → Tuple → Bool
has_step m c StepSet.All x own = true
has_step m c (StepSet.Only y) x own = same_name y x
has_step m c (StepSet.With y xs) x own = same_name y x && fits m c xs own
has_step m c (StepSet.Complement A) x own = not (has_step m c A x own)
has_step m c (StepSet.Union A B) x own = has_step m c A x own || has_step m c B x own

-- where a step leads from a state for those of its values that are in the set
abbrev pub successors_by : Protocol → data_value.Assignment → StepSet → State → Step → List State
successors_by m c A s a =
    map (next_state m s a)
    (filter (λ (own : Tuple). has_step m c A a.name own && is_enabled m s a own)
    (tuples (carriers_of (data_of m) a.variables)))

-- the states to which the steps of a set lead
abbrev pub successors : Protocol → data_value.Assignment → StepSet → State → List State
successors m c A s = flat_map (successors_by m c A s) m.steps
