-- A state as the values of its variables, with one value for an array of equal elements.
use Rattle.std.specs.Prelude.{ℕ, suc, ◌==◌, Bool, true, if◌then◌else◌, List, [], ◌∷◌, map, flat_map}
use Rattle.std.specs.List.{before_first, list_all, prefix_len}
use Rattle.std.specs.Ordering.{int_eq}
use Rattle.pb_base_values.specs.Carrier.{Value, Tuple}
use Rattle.pb_text_tree.specs.Form.{VariableForm}
use Rattle.pb_text_meaning.specs.Syntax.{Name, same_name}

-- a variable, or a whole array, by its name, and its value, which is one of a sort
pub record VariableValue : Type 0 where
  pub name : Name
  pub sort : Name
  pub value : Value

-- the value of each variable
abbrev pub variable_values : List VariableForm → Tuple → List VariableValue
variable_values (x ∷ xs) (v ∷ vs) =
    record { name = x.name.text; sort = x.sort.text; value = v } ∷ variable_values xs vs
variable_values xs vs = []

-- ---- arrays

-- the array of an element, which is what comes before the bracket of its index: `said` of
-- `said(1)`; the name of any other variable is its own
abbrev pub array_name : Name → Name
array_name x = before_first (λ c. c == 40) x

-- an element of this array
abbrev pub is_element_of : Name → Name → Bool
is_element_of array x = same_name array (array_name x)

-- how many variables, from the first one on, are elements of its array
abbrev pub first_array_length : List VariableForm → ℕ
first_array_length [] = 0
first_array_length (x ∷ xs) =
    suc (prefix_len (λ y. is_element_of (array_name x.name.text) y.name.text) xs)

-- in front of arrays: in the first of them, where it is an element of that, else alone
abbrev pub in_front : VariableValue → List (List VariableValue) → List (List VariableValue)
in_front e ((f ∷ fs) ∷ rest) =
    if is_element_of (array_name e.name) f.name
    then (e ∷ f ∷ fs) ∷ rest else (e ∷ []) ∷ (f ∷ fs) ∷ rest
in_front e rest = (e ∷ []) ∷ rest

-- array by array, whose elements come one after another; a variable that is no element is by itself
abbrev pub by_arrays : List VariableValue → List (List VariableValue)
by_arrays [] = []
by_arrays (e ∷ es) = in_front e (by_arrays es)

-- ---- equal elements

abbrev pub are_equal : Tuple → Bool
are_equal [] = true
are_equal (v ∷ vs) = list_all (int_eq v) vs

-- one value for an array whose elements are all equal, else that of each element
abbrev pub merged_array : List VariableValue → List VariableValue
merged_array [] = []
merged_array (e ∷ es) =
    if are_equal (map (λ (f : VariableValue). f.value) (e ∷ es))
    then record e { name = array_name e.name } ∷ [] else e ∷ es

-- the values of a state, with one for each array of equal elements
abbrev pub state_values : List VariableForm → Tuple → List VariableValue
state_values xs vs = flat_map merged_array (by_arrays (variable_values xs vs))
