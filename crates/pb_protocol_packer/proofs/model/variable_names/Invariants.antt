use Rattle.std.proofs.Common.{◌≡◌, ◌++◌, drop, map}
use Rattle.pb_protocol_packer.specs.View.{variables_in}
use Rattle.pb_protocol_packer.specs.Initial.{names_by, variable_name}
use Rattle.pb_protocol_packer.proofs.model.variable_names.Given as goal

abbrev pub invariant-loop-group : goal.invariant-loop-group
invariant-loop-group l = map variable_name (variables_in l.groups) ≡ names_by l.names.items ++ map variable_name (variables_in (drop l.group-index l.groups))
