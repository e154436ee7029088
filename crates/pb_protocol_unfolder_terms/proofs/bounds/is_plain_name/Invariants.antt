use Rattle.std.proofs.Common.{◌≡◌, map, drop}
use Rattle.pb_protocol_unfolder_terms.specs.Bounds.{is_plain_name}
use Rattle.pb_protocol_unfolder_terms.specs.Contexts.{state_variable_of}
use Rattle.pb_protocol_unfolder_terms.proofs.bounds.is_plain_name.Given as goal

abbrev pub invariant-loop-variable : goal.invariant-loop-variable
invariant-loop-variable l =
    is_plain_name (map state_variable_of l.variables) l.name ≡ is_plain_name (map state_variable_of (drop l.variable-index l.variables)) l.name
