use Rattle.std.proofs.Common.{◌≡◌, ◌++◌, map, drop}
use Rattle.pb_protocol_unfolder_terms.specs.Values.{written_term, tuple_of, with_each}
use Rattle.pb_protocol_unfolder_terms.proofs.written.push_with_first.Given as goal

abbrev pub invariant-loop-tuple : goal.invariant-loop-tuple
invariant-loop-tuple l =
    map tuple_of l.all.items ++ with_each (written_term l.first) (map tuple_of (drop l.tuple-index l.tuples))
    ≡ map tuple_of l.initial.all.items ++ with_each (written_term l.first) (map tuple_of l.tuples)
