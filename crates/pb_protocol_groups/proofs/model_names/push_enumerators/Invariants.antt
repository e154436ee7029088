use Rattle.std.proofs.Common.{◌≡◌, ◌++◌, drop}
use Rattle.pb_protocol_groups.specs.Names.{names_of_enumerators}
use Rattle.pb_protocol_packer.specs.Initial.{names_by}
use Rattle.pb_protocol_groups.proofs.model_names.push_enumerators.Given as goal

abbrev pub invariant-loop-enumerator : goal.invariant-loop-enumerator
invariant-loop-enumerator l = names_by l.names.items ++ names_of_enumerators (drop l.enumerator-index l.enumerators) ≡ names_by l.initial.names.items ++ names_of_enumerators l.enumerators
