use Rattle.std.proofs.Common.{◌≡◌, ◌++◌, map, drop}
use Rattle.pb_protocol_unfolder_terms.specs.Values.{written_term, named_by, enumerators_said}
use Rattle.pb_protocol_unfolder_terms.proofs.written.written_enumerators.Given as goal

abbrev pub invariant-loop-enumerator : goal.invariant-loop-enumerator
invariant-loop-enumerator l =
    map written_term l.values.items ++ map named_by (enumerators_said (drop l.enumerator-index l.enumerators)) ≡ map named_by (enumerators_said l.enumerators)
