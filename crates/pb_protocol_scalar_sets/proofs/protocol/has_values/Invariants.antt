use Rattle.std.proofs.Common.{◌≡◌, drop, map}
use Rattle.pb_protocol_scalar_sets.specs.Sorts.{spec_of}
use Rattle.pb_protocol_scalar_sets.specs.Symmetric.{has_values}
use Rattle.pb_protocol_scalar_sets.specs.View.{variable_said}
use Rattle.pb_protocol_scalar_sets.proofs.protocol.has_values.Given as goal

-- the variables that are left
abbrev pub invariant-loop-variable : goal.invariant-loop-variable
invariant-loop-variable l =
    let all = has_values (spec_of l.protocol) in all (map variable_said l.variables) ≡ all (map variable_said (drop l.variable-index l.variables))
