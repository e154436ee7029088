use Rattle.std.proofs.Common.{◌≡◌, drop}
use Rattle.pb_protocol_packing.specs.Packing.{with_sorts}
use Rattle.pb_protocol_packer.specs.Declarations.{declarations_in}
use Rattle.pb_protocol_packer.specs.Groups.{groups_in}
use Rattle.pb_protocol_packer.proofs.declared.sorts.Given as goal

-- those of the groups from the index on stand in front
abbrev pub invariant-loop-index : goal.invariant-loop-index
invariant-loop-index l = declarations_in l.sorts.items ≡ with_sorts (groups_in (drop l.index l.groups)) (declarations_in l.declared)
