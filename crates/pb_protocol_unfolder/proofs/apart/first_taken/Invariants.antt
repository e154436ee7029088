use Rattle.std.proofs.Common.{map, take}
use Rattle.pb_protocol_folding.specs.Names.{AreNot, enumerators_in}
use Rattle.pb_protocol_unfolder.specs.Apart.{declarations_said, name_bytes}
use Rattle.pb_protocol_unfolder.proofs.apart.first_taken.Given as goal

-- no enumerator has the name of one in front
abbrev pub invariant-loop-index : goal.invariant-loop-index
invariant-loop-index l = AreNot (enumerators_in (declarations_said l.declarations)) (map name_bytes (take l.index l.names))
