use Rattle.std.proofs.Common.{◌≡◌, ◌++◌, map, drop}
use Rattle.pb_protocol_unfolder_steps.specs.Elements.{instance_said}
use Rattle.pb_protocol_unfolder_steps.specs.Refusals.{instance_place}
use Rattle.pb_protocol_unfolder.specs.Unfolded.{chosen_instances, chosen_places}
use Rattle.pb_protocol_unfolder.proofs.left.left_instances.Given as goal

-- those that are still to be added stand behind those that are added
abbrev pub invariant-loop-place : goal.invariant-loop-place
invariant-loop-place l = record {
  said : map instance_said l.left.items ++ chosen_instances (map instance_said (drop l.place l.instances)) (drop l.place l.kept) ≡ chosen_instances (map instance_said l.instances) l.kept;
  places : map instance_place l.left.items ++ chosen_places (map instance_place (drop l.place l.instances)) (drop l.place l.kept) ≡ chosen_places (map instance_place l.instances) l.kept;
}
