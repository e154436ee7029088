use Rattle.std.proofs.Common.{◌≡◌, ◌≤◌, ◌++◌, length, map, drop}
use Rattle.pb_protocol_meaning.specs.Erase.{protocol_of}
use Rattle.pb_protocol_unfolder_steps.specs.declared.limits.TheConstants.{MAX_WRITTEN_STEPS}
use Rattle.pb_protocol_unfolder_steps.specs.Elements.{instance_said, instances_of_steps}
use Rattle.pb_protocol_unfolder_steps.specs.StepFaults.{forms_of_steps, placed_instance}
use Rattle.pb_protocol_unfolder_steps.specs.Refusals.{instance_place, places_of_steps}
use Rattle.pb_protocol_unfolder_steps.proofs.instance.instances_of.Given as goal

-- what is still to be added stands behind what is added
abbrev pub invariant-loop-step : goal.invariant-loop-step
invariant-loop-step l = record {
  added : map instance_said l.instances.items ++ instances_of_steps (protocol_of l.whole) (drop l.step-index l.steps) ≡ instances_of_steps (protocol_of l.whole) l.steps;
  places : map instance_place l.instances.items ++ places_of_steps (protocol_of l.whole) (drop l.step-index l.steps) ≡ places_of_steps (protocol_of l.whole) l.steps;
  forms : map placed_instance l.instances.items ++ forms_of_steps (protocol_of l.whole) (drop l.step-index l.steps) ≡ forms_of_steps (protocol_of l.whole) l.steps;
  few : length l.instances.items ≤ MAX_WRITTEN_STEPS;
}
