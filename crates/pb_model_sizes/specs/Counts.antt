-- How many values, elements, states and copies of steps there are, by the sorts and ranges of a
-- text.
use Rattle.std.specs.Prelude.{ℕ, ◌+◌, ◌*◌, ◌^◌, ◌==◌, if◌then◌else◌, min, List, [], ◌∷◌, ◌++◌, length}
use Rattle.std.specs.Prelude.{codes, decimal}
use Rattle.pb_base_values.specs.Carrier.{tuple_count}
use Rattle.pb_text_tree.specs.Form.{VariableForm}
use Rattle.pb_text_meaning.specs.Syntax.{Name, Spec}
use Rattle.pb_text_meaning.specs.Sorts.{carrier_of}
use Rattle.pb_text_meaning.specs.Formula.{carriers_of}
use Rattle.pb_text_meaning.specs.Erase.{erased_variables}
use Rattle.pb_protocol_tree.specs.Form.{StateVariableForm, StepForm}
use Rattle.pb_model_sizes.specs.declared.count.TheConstants.{MAX_COUNT}

-- of a sort
abbrev pub value_count : Spec → Name → ℕ
value_count spec s = length (carrier_of spec s)

-- how many tuples of values variables have: one, where there is none
abbrev pub tuples_of : Spec → List VariableForm → ℕ
tuples_of spec xs = tuple_count (carriers_of spec (erased_variables xs))

-- an array has an element for each tuple of values of its indices, and a plain variable is one
abbrev pub element_sum : Spec → List StateVariableForm → ℕ
element_sum spec [] = 0
element_sum spec (y ∷ ys) = tuples_of spec y.indices + element_sum spec ys

-- each element has any of its sort's values
abbrev pub state_product : Spec → List StateVariableForm → ℕ
state_product spec [] = 1
state_product spec (y ∷ ys) =
    value_count spec y.sort.text ^ tuples_of spec y.indices * state_product spec ys

-- a step has a copy for each tuple of values of its own variables
abbrev pub all_copies : Spec → List StepForm → ℕ
all_copies spec [] = 0
all_copies spec (a ∷ steps) = tuples_of spec a.variables + all_copies spec steps

-- ---- what is told of a count

-- the greatest that is told stands for all beyond
abbrev pub capped : ℕ → ℕ
capped n = min n MAX_COUNT

-- a plus says that there may be more
abbrev pub told : ℕ → List ℕ
told n = decimal n ++ (if n == MAX_COUNT then codes "+" else [])

abbrev pub count_text : ℕ → List ℕ
count_text n = told (capped n)
