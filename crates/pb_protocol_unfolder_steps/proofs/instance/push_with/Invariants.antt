use Rattle.std.proofs.Common.{◌≡◌, ◌++◌, map}
use Rattle.pb_protocol_unfolder_terms.specs.Values.{tuple_of}
use Rattle.pb_protocol_unfolder_steps.specs.Elements.{instance_at, instance_said}
use Rattle.pb_protocol_tree.specs.Form.{step_form}
use Rattle.pb_protocol_unfolder_steps.specs.StepFaults.{placed_instance, placed_at}
use Rattle.pb_protocol_unfolder_steps.specs.Refusals.{instance_place, each_at}
use Rattle.pb_protocol_unfolder_steps.proofs.instance.push_with.Given as goal

abbrev pub invariant-loop-own : goal.invariant-loop-own
invariant-loop-own l = record {
  instances : map instance_said l.instances.items ≡ map instance_said l.initial.instances.items ++ map (instance_at l.step) (map tuple_of l.yielded);
  places : map instance_place l.instances.items ≡ map instance_place l.initial.instances.items ++ each_at l.step.name.place l.yielded;
  forms : map placed_instance l.instances.items ≡ map placed_instance l.initial.instances.items ++ map (placed_at (step_form l.step)) (map tuple_of l.yielded);
}
