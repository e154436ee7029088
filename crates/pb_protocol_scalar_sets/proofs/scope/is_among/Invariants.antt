use Rattle.std.proofs.Common.{◌≡◌, drop}
use Rattle.std.specs.List.{list_any}
use Rattle.pb_protocol_scalar_sets.specs.Scopes.{is_called}
use Rattle.pb_protocol_scalar_sets.proofs.scope.is_among.Given as goal

-- the name is among those that are left
abbrev pub invariant-loop-other : goal.invariant-loop-other
invariant-loop-other l = list_any (is_called l.name) (drop l.other-index l.names) ≡ list_any (is_called l.name) l.names
