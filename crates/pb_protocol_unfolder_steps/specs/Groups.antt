-- The variables of groups, one by one.
use Rattle.std.specs.Prelude.{List, map, flat_map, string_bytes}
use Rattle.pb_text_tree.specs.declared.name.Name as declared_name
use Rattle.pb_text_tree.specs.declared.variable.Variables as declared_variables
use Rattle.pb_text_meaning.specs.Syntax.{Variable}

abbrev pub variable_named : declared_name.Name → declared_name.Name → Variable
variable_named sort n = record { name = string_bytes n.text; sort = string_bytes sort.text }

abbrev pub group_said : declared_variables.Variables → List Variable
group_said group = map (variable_named group.sort) group.names.items

abbrev pub groups_said : List declared_variables.Variables → List Variable
groups_said groups = flat_map group_said groups
