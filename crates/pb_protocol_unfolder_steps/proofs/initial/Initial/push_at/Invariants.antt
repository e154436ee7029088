use Rattle.std.proofs.Common.{◌≡◌, ◌++◌, map, drop}
use Rattle.pb_protocol_meaning.specs.Erase.{protocol_of}
use Rattle.pb_protocol_unfolder_terms.specs.Values.{tuple_of}
use Rattle.pb_protocol_unfolder_terms.specs.View.{variable_of}
use Rattle.pb_protocol_unfolder_steps.specs.Initial.{argument_term, term_at}
use Rattle.pb_protocol_unfolder_steps.proofs.initial.Initial.push_at.Given as goal

-- what is still to be added stands behind what is added
abbrev pub invariant-loop-values : goal.invariant-loop-values
invariant-loop-values l =
    let f = term_at (protocol_of l.self) (map variable_of l.indices) (argument_term l.value) in
    map argument_term l.terms.items ++ map f (map tuple_of (drop l.values-index l.tuples)) ≡ map argument_term l.initial.terms.items ++ map f (map tuple_of l.tuples)
