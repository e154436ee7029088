use Rattle.std.proofs.Common.{◌≡◌, drop}
use Rattle.std.specs.List.{list_any}
use Rattle.pb_protocol_unfolder.specs.Apart.{has_enumerator}
use Rattle.pb_protocol_unfolder.proofs.apart.some_has_enumerator.Given as goal

abbrev pub invariant-loop-declaration : goal.invariant-loop-declaration
invariant-loop-declaration l = list_any (has_enumerator l.name) (drop l.declaration-index l.declarations) ≡ list_any (has_enumerator l.name) l.declarations
