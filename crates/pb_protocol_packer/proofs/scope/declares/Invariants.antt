use Rattle.std.proofs.Common.{◌≡◌, drop}
use Rattle.std.specs.List.{list_any}
use Rattle.pb_protocol_packer.specs.View.{variables_in}
use Rattle.pb_protocol_packer.specs.Scopes.{is_named}
use Rattle.pb_protocol_packer.proofs.scope.declares.Given as goal

abbrev pub invariant-loop-group : goal.invariant-loop-group
invariant-loop-group l = list_any (is_named l.name) (variables_in (drop l.group-index l.groups)) ≡ list_any (is_named l.name) (variables_in l.groups)
