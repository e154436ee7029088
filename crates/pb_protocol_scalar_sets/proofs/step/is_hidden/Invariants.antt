use Rattle.std.proofs.Common.{◌≡◌, drop, map}
use Rattle.pb_protocol_symmetry.specs.Steps.{is_hidden}
use Rattle.pb_protocol_scalar_sets.specs.View.{variable_said}
use Rattle.pb_protocol_scalar_sets.proofs.step.is_hidden.Given as goal

-- the name is among those that are left
abbrev pub invariant-loop-variable : goal.invariant-loop-variable
invariant-loop-variable l = is_hidden l.name (map variable_said (drop l.variable-index l.variables)) ≡ is_hidden l.name (map variable_said l.variables)
