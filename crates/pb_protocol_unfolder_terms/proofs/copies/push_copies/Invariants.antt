use Rattle.std.proofs.Common.{◌≡◌, ◌++◌, map, drop}
use Rattle.pb_protocol_unfolder_terms.specs.AssignmentCopies.{copies_behind, copy_at, copy_behind}
use Rattle.pb_protocol_unfolder_terms.specs.Values.{tuple_of}
use Rattle.pb_protocol_unfolder_terms.specs.View.{variable_of}
use Rattle.pb_protocol_unfolder_terms.proofs.copies.push_copies.Given as goal

abbrev pub invariant-loop-values : goal.invariant-loop-values
invariant-loop-values l =
    map copy_behind l.copies.items ++ map (copy_at l.spread.assignment.now (map variable_of l.spread.variables.items)) (map tuple_of (drop l.values-index l.spread.tuples.items))
    ≡ map copy_behind l.initial.copies.items ++ copies_behind l.spread
