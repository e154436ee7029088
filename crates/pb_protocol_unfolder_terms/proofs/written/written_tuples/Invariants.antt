use Rattle.std.proofs.Common.{◌≡◌, map, drop}
use Rattle.pb_protocol_unfolding.specs.Written.{written_tuples}
use Rattle.pb_protocol_unfolder_terms.specs.Values.{tuple_of}
use Rattle.pb_protocol_unfolder_terms.specs.View.{spec_of, variable_of}
use Rattle.pb_protocol_unfolder_terms.proofs.written.written_tuples.Given as goal

abbrev pub invariant-loop-index : goal.invariant-loop-index
invariant-loop-index l =
    map tuple_of l.tuples.items ≡ written_tuples (spec_of l.sorts) (map variable_of (drop l.index l.variables))
