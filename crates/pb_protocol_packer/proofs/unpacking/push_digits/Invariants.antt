use Rattle.std.proofs.Common.{◌≡◌, ◌++◌, drop, true}
use Rattle.pb_protocol_packing.specs.Unpacked.{digits}
use Rattle.pb_protocol_packer.specs.Members.{are_weighted, members_said}
use Rattle.pb_protocol_packer.proofs.unpacking.push_digits.Given as goal

-- the values so far, and those of the variables that are left
abbrev pub invariant-loop-member : goal.invariant-loop-member
invariant-loop-member l =
    (l.state.items ++ digits (members_said (drop l.member-index l.members)) l.left ≡ l.initial.state.items ++ digits (members_said l.members) l.number)
    × (are_weighted (drop l.member-index l.members) ≡ true)
