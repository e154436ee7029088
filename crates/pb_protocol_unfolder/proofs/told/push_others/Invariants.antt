use Rattle.std.proofs.Common.{◌≡◌, drop, map, string_bytes}
use Rattle.pb_protocol_unfolder_terms.specs.Values.{written_term}
use Rattle.pb_protocol_unfolder.specs.Told.{with_others}
use Rattle.pb_protocol_unfolder.proofs.told.push_others.Given as goal

abbrev pub invariant-loop-value : goal.invariant-loop-value
invariant-loop-value l = with_others (string_bytes l.text) (map written_term (drop l.value-index l.values)) ≡ with_others (string_bytes l.initial.text) (map written_term l.values)
