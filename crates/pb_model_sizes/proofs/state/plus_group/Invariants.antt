use Rattle.std.proofs.Common.{◌≡◌, ◌+◌, ◌≤◌, drop, map}
use Rattle.pb_typing_declarations.specs.View.{spec_of}
use Rattle.pb_protocol_tree.specs.Form.{state_variable_form, state_variables_form}
use Rattle.pb_model_sizes.specs.declared.count.TheConstants.{MAX_COUNT}
use Rattle.pb_model_sizes.specs.Counts.{element_sum, capped}
use Rattle.pb_model_sizes.proofs.state.plus_group.Given as goal

-- the sum so far, with the elements that are left
abbrev pub invariant-loop-variable : goal.invariant-loop-variable
invariant-loop-variable l =
    let spec = spec_of l.declarations in
    record {
      left : capped (l.elements + element_sum spec (state_variables_form l.group))
          ≡ capped (l.sum + element_sum spec (map (state_variable_form l.group.sort) (drop l.variable-index l.variable-items)));
      fits : l.sum ≤ MAX_COUNT;
    }
