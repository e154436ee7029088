use Rattle.std.proofs.Common.{◌≡◌, ◌++◌, drop, map}
use Rattle.std.specs.Prelude.{flat_map, string_bytes}
use Rattle.pb_typing_declarations.specs.View.{spec_of}
use Rattle.pb_protocol_tree.specs.Form.{step_form}
use Rattle.pb_model_sizes.specs.Sizes.{step_line}
use Rattle.pb_model_sizes.proofs.step.push_each.Given as goal

-- the lines so far, and those of the steps that are left
abbrev pub invariant-loop-step : goal.invariant-loop-step
invariant-loop-step l =
    let line = step_line (spec_of l.declarations) in
    string_bytes l.initial.lines ++ flat_map line (map step_form l.steps) ≡ string_bytes l.lines ++ flat_map line (map step_form (drop l.step-index l.steps))
