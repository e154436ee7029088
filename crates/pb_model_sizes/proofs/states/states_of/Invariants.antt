use Rattle.std.proofs.Common.{◌≡◌, ◌*◌, ◌≤◌, drop}
use Rattle.std.specs.Prelude.{flat_map}
use Rattle.pb_typing_declarations.specs.View.{spec_of}
use Rattle.pb_protocol_tree.specs.Form.{state_variables_form}
use Rattle.pb_model_sizes.specs.declared.states.TheConstants.{MAX_MULTIPLIED}
use Rattle.pb_model_sizes.specs.Counts.{element_sum, state_product}
use Rattle.pb_model_sizes.specs.Numbers.{number_in}
use Rattle.pb_model_sizes.proofs.states.states_of.Given as goal

-- the product so far, with the groups that are left
abbrev pub invariant-loop-group : goal.invariant-loop-group
invariant-loop-group l =
    let spec = spec_of l.declarations in
    let left = flat_map state_variables_form (drop l.group-index l.groups) in
    record {
      states : state_product spec (flat_map state_variables_form l.groups) ≡ number_in l.product * state_product spec left;
      few : element_sum spec left ≤ MAX_MULTIPLIED;
    }
