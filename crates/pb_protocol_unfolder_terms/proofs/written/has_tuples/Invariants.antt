use Rattle.std.proofs.Common.{◌<◌, drop}
use Rattle.std.specs.Prelude.{◌↔◌}
use Rattle.pb_protocol_unfolder_terms.specs.View.{spec_of}
use Rattle.pb_protocol_unfolder_terms.proofs.TupleLemmas.{tuple_count}
use Rattle.pb_protocol_unfolder_terms.proofs.written.has_tuples.Given as goal

abbrev pub invariant-loop-variable : goal.invariant-loop-variable
invariant-loop-variable l =
    (0 < tuple_count (spec_of l.sorts) (drop l.variable-index l.variables)) ↔ (0 < tuple_count (spec_of l.sorts) l.variables)
