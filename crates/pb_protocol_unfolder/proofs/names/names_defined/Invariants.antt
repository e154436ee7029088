use Rattle.std.proofs.Common.{◌≡◌, map, take}
use Rattle.pb_protocol_unfolder.specs.Apart.{definition_bytes, name_bytes}
use Rattle.pb_protocol_unfolder.proofs.names.names_defined.Given as goal

abbrev pub invariant-loop-definition : goal.invariant-loop-definition
invariant-loop-definition l = map name_bytes l.names.items ≡ map definition_bytes (take l.definition-index l.defined)
