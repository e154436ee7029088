-- The groups of a packing, as the program holds them.
use Rattle.std.specs.Prelude.{List, [], ◌∷◌, map}
use Rattle.pb_base_values.specs.Carrier.{Value, Tuple, at_least_none}
use Rattle.pb_protocol_packing.specs.Unpacked.{digits}
use Rattle.pb_protocol_packing.specs.Packing as packing
use Rattle.pb_protocol_packer.specs.Members.{members_said, syntax_variable}
use Rattle.pb_protocol_packer.specs.declared.group.Group as declared_group
use Rattle.pb_protocol_packer.specs.declared.group.Group.TheVariants as group

abbrev pub group_of : declared_group.Group → packing.Group
group_of (group.Alone x) = packing.Group.Alone (syntax_variable x)
group_of (group.Joined g) =
    packing.Group.Joined (syntax_variable g.variable) (members_said g.members.items)

abbrev pub groups_in : List declared_group.Group → List packing.Group
groups_in = map group_of

-- the values of a group's variables where its variable has this one
abbrev pub values_at : packing.Group → Value → Tuple
values_at (packing.Group.Alone x) v = v ∷ []
values_at (packing.Group.Joined x ps) v = digits ps (at_least_none v)
