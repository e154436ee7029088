use Rattle.std.proofs.Common.{◌≡◌, drop, map}
use Rattle.std.specs.List.{list_all}
use Rattle.pb_protocol_tree.specs.Form.{assignment_form}
use Rattle.pb_protocol_unfolder.specs.Plain.{is_plain_assignment}
use Rattle.pb_protocol_unfolder.proofs.plain_test.are_plain_assignments.Given as goal

abbrev pub invariant-loop-assignment : goal.invariant-loop-assignment
invariant-loop-assignment l = list_all is_plain_assignment (map assignment_form (drop l.assignment-index l.assignments)) ≡ list_all is_plain_assignment (map assignment_form l.assignments)
