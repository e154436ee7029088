use Rattle.std.proofs.Common.{◌≡◌, map, take}
use Rattle.pb_protocol_unfolding.specs.Unfolding as definitions
use Rattle.pb_protocol_unfolder_steps.specs.Elements.{instance_said}
use Rattle.pb_protocol_unfolder.specs.Apart.{name_bytes}
use Rattle.pb_protocol_unfolder.proofs.names.instance_names.Given as goal

abbrev pub invariant-loop-instance : goal.invariant-loop-instance
invariant-loop-instance l = map name_bytes l.names.items ≡ map definitions.instance_name (map instance_said (take l.instance-index l.instances))
