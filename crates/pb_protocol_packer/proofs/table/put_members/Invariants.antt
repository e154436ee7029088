use Rattle.std.proofs.Common.{◌≡◌, drop, true}
use Rattle.pb_protocol_packing.specs.Packing.{capacity, with_members}
use Rattle.pb_protocol_packer.specs.View.{term_of}
use Rattle.pb_protocol_packer.specs.Members.{are_weighted, members_said}
use Rattle.pb_protocol_packer.specs.Scopes.{table_of}
use Rattle.pb_protocol_packer.proofs.table.put_members.Given as goal

-- the digits that are left, which count less than `end`
abbrev pub invariant-loop-member : goal.invariant-loop-member
invariant-loop-member l =
    let left = drop l.member-index l.joined.members.items in
    let with = with_members l.joined.capacity (term_of l.number) in
    (with (members_said left) (table_of l.table.items) ≡ with (members_said l.joined.members.items) (table_of l.initial.table.items))
    × (l.end ≡ capacity (members_said left)) × (are_weighted left ≡ true)
