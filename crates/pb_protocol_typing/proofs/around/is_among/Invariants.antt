use Rattle.std.proofs.Common.{◌≡◌, drop}
use Rattle.pb_typing_declarations.specs.Faults.{is_among}
use Rattle.pb_protocol_typing.specs.Names.{name_texts}
use Rattle.pb_protocol_typing.proofs.around.is_among.Given as goal

abbrev pub invariant-loop-other : goal.invariant-loop-other
invariant-loop-other l = is_among (name_texts (drop l.other-index l.names)) l.name ≡ is_among (name_texts l.names) l.name
