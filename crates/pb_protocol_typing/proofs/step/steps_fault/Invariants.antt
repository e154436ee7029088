use Rattle.std.proofs.Common.{◌≡◌, drop, map}
use Rattle.pb_protocol_tree.specs.Form.{step_form}
use Rattle.pb_protocol_typing.specs.Fault.{first_fault}
use Rattle.pb_protocol_typing.specs.Steps.{step_fault}
use Rattle.pb_protocol_typing.specs.View.{scope_of}
use Rattle.pb_protocol_typing.proofs.step.steps_fault.Given as goal

-- the first fault is that of the steps that are left
abbrev pub invariant-loop-step : goal.invariant-loop-step
invariant-loop-step l =
    let fault = step_fault (scope_of l.scope) in first_fault fault (map step_form l.steps) ≡ first_fault fault (map step_form (drop l.step-index l.steps))
