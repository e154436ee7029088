use Rattle.std.proofs.Common.{◌≡◌, ◌*◌, ◌≤◌, drop, map}
use Rattle.pb_typing_declarations.specs.View.{spec_of}
use Rattle.pb_protocol_tree.specs.Form.{state_variable_form, state_variables_form}
use Rattle.pb_model_sizes.specs.declared.states.TheConstants.{MAX_MULTIPLIED}
use Rattle.pb_model_sizes.specs.Counts.{element_sum, state_product}
use Rattle.pb_model_sizes.specs.Numbers.{number_in}
use Rattle.pb_model_sizes.proofs.states.times_group.Given as goal

-- the product so far, with the variables that are left
abbrev pub invariant-loop-variable : goal.invariant-loop-variable
invariant-loop-variable l =
    let spec = spec_of l.declarations in
    let left = map (state_variable_form l.group.sort) (drop l.variable-index l.variable-items) in
    record {
      states : number_in l.fn.number * state_product spec (state_variables_form l.group) ≡ number_in l.product * state_product spec left;
      few : element_sum spec left ≤ MAX_MULTIPLIED;
    }
