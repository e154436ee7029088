use Rattle.std.proofs.Common.{◌≡◌, ◌++◌, drop, map}
use Rattle.pb_protocol_packing.specs.Packing.{variable_of}
use Rattle.pb_protocol_packer.specs.View.{variables_in}
use Rattle.pb_protocol_packer.specs.Groups.{groups_in}
use Rattle.pb_protocol_packer.proofs.declared.variables.Given as goal

abbrev pub invariant-loop-group : goal.invariant-loop-group
invariant-loop-group l = variables_in l.variables.items ++ map variable_of (groups_in (drop l.group-index l.groups)) ≡ map variable_of (groups_in l.groups)
