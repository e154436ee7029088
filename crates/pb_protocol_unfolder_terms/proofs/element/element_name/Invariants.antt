use Rattle.std.proofs.Common.{◌≡◌, drop, map, string_bytes}
use Rattle.pb_protocol_unfolding.specs.Written.{element_of}
use Rattle.pb_protocol_unfolder_terms.specs.Values.{written_term}
use Rattle.pb_protocol_unfolder_terms.proofs.element.element_name.Given as goal

abbrev pub invariant-loop-value : goal.invariant-loop-value
invariant-loop-value l =
    element_of (string_bytes l.name.text) (map written_term (drop l.value-index l.index)) ≡ element_of (string_bytes l.array.text) (map written_term l.index)
