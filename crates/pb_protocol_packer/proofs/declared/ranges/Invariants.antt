use Rattle.std.proofs.Common.{◌≡◌, drop}
use Rattle.pb_protocol_packing.specs.Packing.{with_ranges}
use Rattle.pb_protocol_packer.specs.Declarations.{ranges_in}
use Rattle.pb_protocol_packer.specs.Groups.{groups_in}
use Rattle.pb_protocol_packer.proofs.declared.ranges.Given as goal

-- those of the groups from the index on stand in front
abbrev pub invariant-loop-index : goal.invariant-loop-index
invariant-loop-index l = ranges_in l.ranges.items ≡ with_ranges (groups_in (drop l.index l.groups)) (ranges_in l.declared)
