use Rattle.std.proofs.Common.{◌≡◌, drop}
use Rattle.std.specs.List.{list_all}
use Rattle.pb_protocol_unfolder.specs.View.{is_plain_group}
use Rattle.pb_protocol_unfolder.proofs.plain_test.are_plain_groups.Given as goal

abbrev pub invariant-loop-group : goal.invariant-loop-group
invariant-loop-group l = list_all is_plain_group (drop l.group-index l.groups) ≡ list_all is_plain_group l.groups
