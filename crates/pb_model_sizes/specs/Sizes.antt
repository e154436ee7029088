-- The lines that tell how large a protocol is.
use Rattle.std.specs.Prelude.{ℕ, ◌==◌, Bool, true, if◌then◌else◌, nat_le, List, [], ◌++◌, length}
use Rattle.std.specs.Prelude.{codes, decimal, flat_map, Option, Some, None}
use Rattle.std.specs.List.{list_any}
use Rattle.pb_text_tree.specs.Form.{VariableForm}
use Rattle.pb_text_meaning.specs.Syntax.{Name, same_name, Spec}
use Rattle.pb_protocol_tree.specs.Form.{StateVariableForm, StepForm, PropertyForm, ProtocolForm}
use Rattle.pb_model_sizes.specs.Counts.{element_sum, all_copies, count_text, state_product}
use Rattle.pb_model_sizes.specs.Counts.{tuples_of, value_count}
use Rattle.pb_model_sizes.specs.Digits.{numeral}
use Rattle.pb_model_sizes.specs.Equations.{total_equations}
use Rattle.pb_model_sizes.specs.declared.states.TheConstants.{MAX_MULTIPLIED}

-- ---- state variables

-- of an array, how many elements it has
abbrev pub power_text : Spec → List VariableForm → List ℕ
power_text spec xs =
    if length xs == 0 then [] else (codes " ^ " ++ count_text (tuples_of spec xs))

-- a variable's name and indices, and how many values its sort has
abbrev pub variable_line : Spec → ℕ → Name → List VariableForm → List ℕ
variable_line spec size name xs =
    codes "state " ++ (name ++ (codes " " ++ (decimal size ++ (power_text spec xs ++ codes "\n"))))

abbrev pub state_line : Spec → StateVariableForm → List ℕ
state_line spec y = variable_line spec (value_count spec y.sort.text) y.name.text y.indices

-- ---- states

-- they are multiplied out of so many elements
abbrev pub state_product_line : Spec → List StateVariableForm → List ℕ
state_product_line spec ys =
    if nat_le (element_sum spec ys) MAX_MULTIPLIED
    then (codes "states " ++ (numeral (state_product spec ys) ++ codes "\n")) else []

abbrev pub states_lines : Spec → List StateVariableForm → List ℕ
states_lines spec ys =
    codes "elements " ++ (count_text (element_sum spec ys) ++ (codes "\n"
    ++ state_product_line spec ys))

-- ---- steps

abbrev pub step_line : Spec → StepForm → List ℕ
step_line spec a =
    codes "step " ++ (a.name.text ++ (codes " "
    ++ (count_text (tuples_of spec a.variables) ++ codes "\n")))

abbrev pub steps_lines : Spec → List StepForm → List ℕ
steps_lines spec steps =
    flat_map (step_line spec) steps
    ++ (codes "steps " ++ (count_text (all_copies spec steps) ++ codes "\n"))

-- ---- properties

abbrev pub property_line : Spec → PropertyForm → List ℕ
property_line spec p =
    codes "property " ++ (p.name.text ++ (codes " "
    ++ (count_text (total_equations spec p.formula) ++ codes "\n")))

-- the property has the name, where one is named
abbrev pub is_asked : Option Name → PropertyForm → Bool
is_asked None p = true
is_asked (Some name) p = same_name p.name.text name

-- its line, where it is asked for
abbrev pub asked_line : Spec → Option Name → PropertyForm → List ℕ
asked_line spec name p = if is_asked name p then property_line spec p else []

-- some property has the name
abbrev pub is_known : Option Name → List PropertyForm → Bool
is_known None ps = true
is_known (Some name) ps = list_any (is_asked (Some name)) ps

-- ---- all

abbrev pub size_lines : Spec → Option Name → ProtocolForm → List ℕ
size_lines spec name text =
    flat_map (state_line spec) text.variables
    ++ (states_lines spec text.variables
    ++ (steps_lines spec text.steps
    ++ flat_map (asked_line spec name) text.properties))
