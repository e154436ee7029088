use Rattle.std.proofs.Common.{◌≡◌, drop, map}
use Rattle.pb_text_tree.specs.Form.{variable_forms}
use Rattle.pb_text_meaning.specs.Erase.{erased_variables}
use Rattle.pb_protocol_tree.specs.Form.{step_value_form}
use Rattle.pb_protocol_meaning.specs.Erase.{erased_value}
use Rattle.pb_protocol_scalar_sets.specs.Formulas.{values_fit}
use Rattle.pb_protocol_scalar_sets.specs.View.{scope_of}
use Rattle.pb_protocol_scalar_sets.proofs.formula.values_fit.Given as goal

-- the values that are left, of the variables that are left
abbrev pub invariant-loop-place : goal.invariant-loop-place
invariant-loop-place l =
    let zs = erased_variables (variable_forms l.groups) in
    let fit = values_fit l.context (scope_of l.around) in
    fit zs (map erased_value (map step_value_form l.values)) ≡ fit (drop l.place zs) (map erased_value (map step_value_form (drop l.place l.values)))
