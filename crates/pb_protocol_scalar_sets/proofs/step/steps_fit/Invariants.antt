use Rattle.std.proofs.Common.{◌≡◌, drop, map}
use Rattle.std.specs.List.{list_all}
use Rattle.pb_protocol_tree.specs.Form.{step_form}
use Rattle.pb_protocol_meaning.specs.Erase.{erased_step}
use Rattle.pb_protocol_scalar_sets.specs.Steps.{step_fits}
use Rattle.pb_protocol_scalar_sets.proofs.step.steps_fit.Given as goal

-- the steps that are left
abbrev pub invariant-loop-step : goal.invariant-loop-step
invariant-loop-step l =
    let all = list_all (step_fits l.context) in all (map erased_step (map step_form l.steps)) ≡ all (map erased_step (map step_form (drop l.step-index l.steps)))
