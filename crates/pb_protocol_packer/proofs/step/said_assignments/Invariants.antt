use Rattle.std.proofs.Common.{◌≡◌, ◌++◌, drop}
use Rattle.pb_protocol_packer.specs.Given.{given_in}
use Rattle.pb_protocol_packer.specs.Scopes.{scope_in}
use Rattle.pb_protocol_packer.specs.Steps.{assignments_in, assignments_said}
use Rattle.pb_protocol_packer.proofs.step.said_assignments.Given as goal

abbrev pub invariant-loop-assignment : goal.invariant-loop-assignment
invariant-loop-assignment l =
    let σ = scope_in l.packing l.hiding in
    given_in l.given.items ++ assignments_said σ (assignments_in (drop l.assignment-index l.assignments)) ≡ assignments_said σ (assignments_in l.assignments)
