use Rattle.std.proofs.Common.{◌≡◌, ◌++◌, drop}
use Rattle.pb_protocol_packing.specs.Groups.{variable_names}
use Rattle.pb_protocol_packer.specs.View.{variables_in}
use Rattle.pb_protocol_packer.specs.Initial.{names_by}
use Rattle.pb_protocol_groups.proofs.term_names.push_variables.Given as goal

abbrev pub invariant-loop-group : goal.invariant-loop-group
invariant-loop-group l =
    names_by l.initial.names.items ++ variable_names (variables_in l.groups) ≡ names_by l.names.items ++ variable_names (variables_in (drop l.group-index l.groups))
