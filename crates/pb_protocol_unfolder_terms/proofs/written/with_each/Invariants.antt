use Rattle.std.proofs.Common.{◌≡◌, ◌++◌, map, drop, List}
use Rattle.std.specs.Prelude.{flat_map}
use Rattle.pb_text_meaning.specs.Syntax.{Term}
use Rattle.pb_protocol_unfolder_terms.specs.Values.{written_term, tuple_of, with_each}
use Rattle.pb_protocol_unfolder_terms.proofs.written.with_each.Given as goal

abbrev pub invariant-loop-value : goal.invariant-loop-value
invariant-loop-value l =
    let T : List (List Term) = map tuple_of l.tuples in
    map tuple_of l.all.items ++ flat_map (λ k. with_each k T) (map written_term (drop l.value-index l.values)) ≡ flat_map (λ k. with_each k T) (map written_term l.values)
