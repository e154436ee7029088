use Rattle.std.proofs.Common.{map, take}
use Rattle.pb_protocol_unfolder.specs.Apart.{name_bytes}
use Rattle.pb_protocol_unfolder.proofs.SeenNames.{AreMet}
use Rattle.pb_protocol_unfolder.proofs.apart.first_repeated.Given as goal

-- those in front are in the set, and apart
abbrev pub invariant-loop-index : goal.invariant-loop-index
invariant-loop-index l = AreMet l.before (map name_bytes (take l.index l.names))
