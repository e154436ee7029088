use Rattle.std.proofs.Common.{◌≡◌, ◌++◌, drop, map}
use Rattle.pb_protocol_tree.specs.Form.{step_form}
use Rattle.pb_protocol_typing.specs.Faults.{step_names}
use Rattle.pb_protocol_typing.specs.View.{names_in}
use Rattle.pb_protocol_typing.proofs.names.step_names.Given as goal

-- the names so far, and those that are left
abbrev pub invariant-loop-step : goal.invariant-loop-step
invariant-loop-step l = step_names (map step_form l.steps) ≡ names_in l.names.items ++ step_names (map step_form (drop l.step-index l.steps))
