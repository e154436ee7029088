use Rattle.std.proofs.Common.{◌≡◌, ◌++◌, drop, map}
use Rattle.std.specs.Prelude.{flat_map, string_bytes}
use Rattle.pb_typing_declarations.specs.View.{spec_of}
use Rattle.pb_protocol_tree.specs.Form.{state_variable_form, state_variables_form}
use Rattle.pb_model_sizes.specs.Sizes.{state_line}
use Rattle.pb_model_sizes.proofs.state.push_group.Given as goal

-- the lines so far, and those of the variables that are left
abbrev pub invariant-loop-variable : goal.invariant-loop-variable
invariant-loop-variable l =
    string_bytes l.initial.lines ++ flat_map (state_line (spec_of l.declarations)) (state_variables_form l.group)
    ≡ string_bytes l.lines ++ flat_map (state_line (spec_of l.declarations)) (map (state_variable_form l.group.sort) (drop l.variable-index l.variable-items))
