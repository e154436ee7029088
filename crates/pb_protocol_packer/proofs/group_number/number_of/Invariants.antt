use Rattle.std.proofs.Common.{◌≡◌, drop, true}
use Rattle.pb_model_meaning.specs.Steps.{assigned_term}
use Rattle.pb_protocol_packing.specs.Numbers.{plus_all}
use Rattle.pb_protocol_packing.specs.Packing.{capacity, addends, number_of}
use Rattle.pb_protocol_packer.specs.View.{term_of}
use Rattle.pb_protocol_packer.specs.Members.{are_weighted, members_said}
use Rattle.pb_protocol_packer.specs.Given.{given_in}
use Rattle.pb_protocol_packer.proofs.group_number.number_of.Given as goal

-- the sum so far, and what the variables add that are left
abbrev pub invariant-loop-member : goal.invariant-loop-member
invariant-loop-member l =
    let left = drop l.member-index l.joined.members.items in
    let new = assigned_term (given_in l.fn.given) in
    let old = term_of l.old in
    (plus_all (term_of l.sum.term) (addends new l.joined.capacity old l.sum.end (members_said left)) ≡ number_of new old (members_said l.joined.members.items))
    × (l.end ≡ capacity (members_said left)) × (are_weighted left ≡ true)
