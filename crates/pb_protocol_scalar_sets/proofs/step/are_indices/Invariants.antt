use Rattle.std.proofs.Common.{◌≡◌, drop, map}
use Rattle.pb_protocol_symmetry.specs.ProtocolTest.{are_indices}
use Rattle.pb_protocol_scalar_sets.specs.Terms.{terms_said}
use Rattle.pb_protocol_scalar_sets.specs.View.{variable_said}
use Rattle.pb_protocol_scalar_sets.proofs.step.are_indices.Given as goal

-- the variables that are left
abbrev pub invariant-loop-place : goal.invariant-loop-place
invariant-loop-place l =
    let all = are_indices l.sort (map variable_said l.parameters) (terms_said l.index) in all (map variable_said l.variables) ≡ all (map variable_said (drop l.place l.variables))
