use Rattle.std.proofs.Common.{◌≡◌, ◌+◌, ◌≤◌, drop}
use Rattle.std.specs.Prelude.{flat_map}
use Rattle.pb_typing_declarations.specs.View.{spec_of}
use Rattle.pb_protocol_tree.specs.Form.{state_variables_form}
use Rattle.pb_model_sizes.specs.declared.count.TheConstants.{MAX_COUNT}
use Rattle.pb_model_sizes.specs.Counts.{element_sum, capped}
use Rattle.pb_model_sizes.proofs.state.elements_of.Given as goal

-- the sum so far, with the elements that are left
abbrev pub invariant-loop-group : goal.invariant-loop-group
invariant-loop-group l =
    let spec = spec_of l.declarations in
    record {
      left : capped (element_sum spec (flat_map state_variables_form l.groups))
          ≡ capped (l.elements + element_sum spec (flat_map state_variables_form (drop l.group-index l.groups)));
      fits : l.elements ≤ MAX_COUNT;
    }
