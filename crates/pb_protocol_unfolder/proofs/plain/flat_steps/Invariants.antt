use Rattle.std.proofs.Common.{◌≡◌, map}
use Rattle.pb_model_tree.specs.Form as flat
use Rattle.pb_protocol_tree.specs.Form.{step_form}
use Rattle.pb_protocol_unfolder.specs.Plain.{flat_step_form}
use Rattle.pb_protocol_unfolder.proofs.plain.flat_steps.Given as goal

abbrev pub invariant-loop-step : goal.invariant-loop-step
invariant-loop-step l = map flat.step_form l.flat_steps.items ≡ map flat_step_form (map step_form l.yielded)
