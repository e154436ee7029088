use Rattle.std.proofs.Common.{◌≡◌, drop, map}
use Rattle.std.specs.List.{list_any}
use Rattle.pb_protocol_unfolder_steps.specs.Elements.{instance_said}
use Rattle.pb_protocol_unfolder.specs.Values.{is_member}
use Rattle.pb_protocol_unfolder.specs.View.{set_operand}
use Rattle.pb_protocol_unfolder.proofs.set.+members.Given as goal

abbrev pub invariant-is_in_some-loop-link : goal.invariant-is_in_some-loop-link
invariant-is_in_some-loop-link l =
    list_any (is_member l.unfolder l.scope.names (instance_said l.instance)) (map set_operand (drop l.link-index l.links))
    ≡ list_any (is_member l.unfolder l.scope.names (instance_said l.instance)) (map set_operand l.links)
