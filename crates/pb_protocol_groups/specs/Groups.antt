-- The groups of a model's variables, made one by one.
use Rattle.std.specs.Prelude.{List, ◌++◌}
use Rattle.pb_text_meaning.specs.Syntax.{Name, Variable}
use Rattle.pb_protocol_packing.specs.Packing.{Member, Group}
use Rattle.pb_protocol_packing.specs.Groups.{named_groups}
use Rattle.pb_protocol_packer.specs.Groups.{groups_in}
use Rattle.pb_protocol_groups.specs.Taken.{taken_of}
use Rattle.pb_protocol_groups.specs.declared.grouping.Grouping as declared_grouping

-- the variable of a group, whose sort has its name
abbrev pub named_variable : Name → Variable
named_variable x = record { name = x; sort = x }

-- the groups so far, and those of further members
abbrev pub grouped_behind : declared_grouping.Grouping → List (List Member) → List Group
grouped_behind g others = groups_in g.groups.items ++ named_groups (taken_of g.names) others
