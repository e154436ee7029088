use Rattle.std.proofs.Common.{◌≡◌, ◌++◌, drop}
use Rattle.pb_protocol_packing.specs.Groups.{variable_names}
use Rattle.pb_protocol_packer.specs.Initial.{names_by}
use Rattle.pb_protocol_groups.specs.Names.{variables_of_group}
use Rattle.pb_protocol_groups.proofs.Rows.{variables_by}
use Rattle.pb_protocol_groups.proofs.term_names.push_group.Given as goal

abbrev pub invariant-loop-name : goal.invariant-loop-name
invariant-loop-name l =
    names_by l.initial.names.items ++ variable_names (variables_of_group l.group) ≡ names_by l.names.items ++ variable_names (variables_by l.group.sort (drop l.name-index l.name-items))
