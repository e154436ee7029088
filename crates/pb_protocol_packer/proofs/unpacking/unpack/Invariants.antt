use Rattle.std.proofs.Common.{◌≡◌, ◌++◌, drop}
use Rattle.pb_protocol_packing.specs.Unpacked.{unpacked}
use Rattle.pb_protocol_packer.specs.Groups.{groups_in}
use Rattle.pb_protocol_packer.proofs.unpacking.unpack.Given as goal

-- the values so far, and those of the groups that are left
abbrev pub invariant-loop-index : goal.invariant-loop-index
invariant-loop-index l =
    l.state.items ++ unpacked (groups_in (drop l.index l.groups)) (drop l.index l.packed) ≡ l.initial.state.items ++ unpacked (groups_in l.groups) l.packed
