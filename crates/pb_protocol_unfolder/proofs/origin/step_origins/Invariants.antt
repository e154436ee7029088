use Rattle.std.proofs.Common.{◌≡◌, map, take}
use Rattle.pb_protocol_unfolder_steps.specs.Elements.{instance_said}
use Rattle.pb_protocol_unfolder_steps.specs.Refusals.{instance_place}
use Rattle.pb_protocol_unfolder.specs.Origins.{origin_name, origin_place}
use Rattle.pb_protocol_unfolder.specs.Told.{told_instance}
use Rattle.pb_protocol_unfolder.proofs.origin.step_origins.Given as goal

abbrev pub invariant-loop-instance : goal.invariant-loop-instance
invariant-loop-instance l = record {
  names : map origin_name l.origins.items ≡ map told_instance (map instance_said (take l.instance-index l.instances));
  places : map origin_place l.origins.items ≡ map instance_place (take l.instance-index l.instances);
}
