use Rattle.std.proofs.Common.{◌≡◌, drop, []}
use Rattle.pb_protocol_packing.specs.Packing.{with_groups}
use Rattle.pb_protocol_packer.specs.Groups.{groups_in}
use Rattle.pb_protocol_packer.specs.Scopes.{table_of}
use Rattle.pb_protocol_packer.proofs.table.known_variables.Given as goal

abbrev pub invariant-loop-group : goal.invariant-loop-group
invariant-loop-group l = with_groups (groups_in (drop l.group-index l.groups)) (table_of l.table.items) ≡ with_groups (groups_in l.groups) []
