use Rattle.std.proofs.Common.{◌≡◌, ◌++◌, drop, flat_map, map}
use Rattle.pb_model_tree.specs.Form.{step_form}
use Rattle.pb_protocol_typing.specs.View.{names_in}
use Rattle.pb_protocol_groups.specs.Checks.{step_own_names}
use Rattle.pb_protocol_groups.proofs.checks.step_variables.Given as goal

abbrev pub invariant-loop-step : goal.invariant-loop-step
invariant-loop-step l =
    flat_map step_own_names (map step_form l.steps) ≡ names_in l.names.items ++ flat_map step_own_names (map step_form (drop l.step-index l.steps))
