use Rattle.std.proofs.Common.{◌≡◌, ◌++◌, map, drop}
use Rattle.pb_protocol_meaning.specs.Erase.{protocol_of}
use Rattle.pb_protocol_unfolder_steps.specs.Initial.{argument_term, indices_behind, initial_terms_of}
use Rattle.pb_protocol_unfolder_steps.proofs.initial.Initial.values_of.Given as goal

-- what is still to be added stands behind what is added
abbrev pub invariant-loop-at : goal.invariant-loop-at
invariant-loop-at l =
    let m = protocol_of l.self in
    map argument_term l.terms.items
    ++ initial_terms_of m (map indices_behind (drop l.at l.variables)) (map argument_term (drop l.at l.values))
    ≡ initial_terms_of m (map indices_behind l.variables) (map argument_term l.values)
