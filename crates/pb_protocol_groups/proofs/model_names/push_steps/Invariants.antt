use Rattle.std.proofs.Common.{◌≡◌, ◌++◌, drop, flat_map}
use Rattle.pb_protocol_packing.specs.Groups.{step_names}
use Rattle.pb_protocol_packer.specs.Properties.{erased_step_list}
use Rattle.pb_protocol_packer.specs.Initial.{names_by}
use Rattle.pb_protocol_groups.proofs.model_names.push_steps.Given as goal

abbrev pub invariant-loop-step : goal.invariant-loop-step
invariant-loop-step l = names_by l.names.items ++ flat_map step_names (erased_step_list (drop l.step-index l.steps)) ≡ names_by l.initial.names.items ++ flat_map step_names (erased_step_list l.steps)
