use Rattle.std.proofs.Common.{◌≡◌, drop, map}
use Rattle.pb_protocol_symmetry.specs.Steps.{is_index}
use Rattle.pb_protocol_scalar_sets.specs.Terms.{terms_said}
use Rattle.pb_protocol_scalar_sets.specs.View.{variable_said}
use Rattle.pb_protocol_scalar_sets.proofs.step.is_index.Given as goal

-- the name is one of the indices that are left
abbrev pub invariant-loop-place : goal.invariant-loop-place
invariant-loop-place l =
    is_index l.sort l.name (map variable_said l.parameters) (terms_said l.index)
    ≡ is_index l.sort l.name (map variable_said (drop l.place l.parameters)) (terms_said (drop l.place l.index))
