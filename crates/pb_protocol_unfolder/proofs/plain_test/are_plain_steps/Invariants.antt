use Rattle.std.proofs.Common.{◌≡◌, drop, map}
use Rattle.std.specs.List.{list_all}
use Rattle.pb_protocol_tree.specs.Form.{step_form}
use Rattle.pb_protocol_unfolder.specs.Plain.{is_plain_step}
use Rattle.pb_protocol_unfolder.proofs.plain_test.are_plain_steps.Given as goal

abbrev pub invariant-loop-step : goal.invariant-loop-step
invariant-loop-step l = list_all is_plain_step (map step_form (drop l.step-index l.steps)) ≡ list_all is_plain_step (map step_form l.steps)
