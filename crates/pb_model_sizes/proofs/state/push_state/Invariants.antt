use Rattle.std.proofs.Common.{◌≡◌, ◌++◌, drop}
use Rattle.std.specs.Prelude.{flat_map, string_bytes}
use Rattle.pb_typing_declarations.specs.View.{spec_of}
use Rattle.pb_protocol_tree.specs.Form.{state_variables_form}
use Rattle.pb_model_sizes.specs.Sizes.{state_line}
use Rattle.pb_model_sizes.proofs.state.push_state.Given as goal

-- the lines so far, and those of the groups that are left
abbrev pub invariant-loop-group : goal.invariant-loop-group
invariant-loop-group l =
    string_bytes l.initial.lines ++ flat_map (state_line (spec_of l.declarations)) (flat_map state_variables_form l.groups)
    ≡ string_bytes l.lines ++ flat_map (state_line (spec_of l.declarations)) (flat_map state_variables_form (drop l.group-index l.groups))
