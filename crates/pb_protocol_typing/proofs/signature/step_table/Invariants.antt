use Rattle.std.proofs.Common.{◌≡◌, drop, map}
use Rattle.pb_typing_declarations.specs.View.{spec_of}
use Rattle.pb_protocol_tree.specs.Form.{step_form}
use Rattle.pb_protocol_typing.specs.Signatures.{no_steps, with_steps}
use Rattle.pb_protocol_typing.specs.View.{shapes_in}
use Rattle.pb_protocol_typing.proofs.signature.step_table.Given as goal

-- the steps that are left, over the table so far
abbrev pub invariant-loop-step : goal.invariant-loop-step
invariant-loop-step l =
    with_steps (spec_of l.declarations) no_steps (map step_form l.steps)
    ≡ with_steps (spec_of l.declarations) (shapes_in l.table) (map step_form (drop l.step-index l.steps))
