use Rattle.std.proofs.Common.{◌≡◌, drop, map}
use Rattle.pb_protocol_tree.specs.Form.{assignment_form}
use Rattle.pb_protocol_typing.specs.Fault.{first_fault}
use Rattle.pb_protocol_typing.specs.Steps.{assignment_fault}
use Rattle.pb_protocol_typing.specs.View.{scope_of}
use Rattle.pb_protocol_typing.proofs.step.assignments_fault.Given as goal

-- the first fault is that of the assignments that are left
abbrev pub invariant-loop-assignment : goal.invariant-loop-assignment
invariant-loop-assignment l =
    let fault = assignment_fault (scope_of l.scope) in
    first_fault fault (map assignment_form l.assignments) ≡ first_fault fault (map assignment_form (drop l.assignment-index l.assignments))
