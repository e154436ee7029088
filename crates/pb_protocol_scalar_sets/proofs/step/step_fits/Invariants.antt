use Rattle.std.proofs.Common.{◌≡◌, drop, map}
use Rattle.std.specs.List.{list_all}
use Rattle.pb_protocol_tree.specs.Form.{assignment_form}
use Rattle.pb_protocol_meaning.specs.Erase.{erased_assignment}
use Rattle.pb_protocol_scalar_sets.specs.Steps.{assignment_fits}
use Rattle.pb_protocol_scalar_sets.specs.View.{scope_of}
use Rattle.pb_protocol_scalar_sets.proofs.step.step_fits.Given as goal

-- the assignments that are left
abbrev pub invariant-loop-assignment : goal.invariant-loop-assignment
invariant-loop-assignment l =
    let all = list_all (assignment_fits l.context (scope_of l.around)) in
    let assignments = l.step.assignments.items in
    all (map erased_assignment (map assignment_form assignments)) ≡ all (map erased_assignment (map assignment_form (drop l.assignment-index assignments)))
