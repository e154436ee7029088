use Rattle.std.proofs.Common.{◌≡◌, drop}
use Rattle.std.specs.Prelude.{flat_map}
use Rattle.pb_typing_declarations.specs.View.{spec_of}
use Rattle.pb_protocol_tree.specs.Form.{state_variables_form}
use Rattle.pb_model_sizes.specs.Sorts.{state_faults}
use Rattle.pb_model_sizes.proofs.sort.check_sorts.Given as goal

-- all faults are those of the groups that are left
abbrev pub invariant-loop-group : goal.invariant-loop-group
invariant-loop-group l =
    let faults = state_faults (spec_of l.declarations) in faults (flat_map state_variables_form l.groups) ≡ faults (flat_map state_variables_form (drop l.group-index l.groups))
