use Rattle.std.proofs.Common.{◌≡◌, ◌++◌, map, drop}
use Rattle.pb_protocol_tree.specs.Form.{step_set_form}
use Rattle.pb_protocol_unfolder_steps.specs.Elements.{instance_said}
use Rattle.pb_protocol_unfolder.specs.Apart.{name_bytes}
use Rattle.pb_protocol_unfolder.specs.Left.{member_names}
use Rattle.pb_protocol_unfolder.proofs.step_set.members.Given as goal

-- what is still to be added stands behind what is added
abbrev pub invariant-loop-instance : goal.invariant-loop-instance
invariant-loop-instance l =
    map name_bytes l.names.items
    ++ member_names l.unfolder l.scope.names (step_set_form l.set)
    (map instance_said (drop l.instance-index l.instances))
    ≡ member_names l.unfolder l.scope.names (step_set_form l.set) (map instance_said l.instances)
