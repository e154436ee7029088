use Rattle.std.proofs.Common.{◌≡◌, ◌++◌, drop}
use Rattle.pb_protocol_packer.specs.View.{texts_of}
use Rattle.pb_protocol_groups.specs.Names.{names_of_enumerators}
use Rattle.pb_protocol_groups.proofs.end.copy_enumerators.Given as goal

abbrev pub invariant-loop-enumerator : goal.invariant-loop-enumerator
invariant-loop-enumerator l = texts_of l.names.items ++ names_of_enumerators (drop l.enumerator-index l.enumerators) ≡ names_of_enumerators l.enumerators
