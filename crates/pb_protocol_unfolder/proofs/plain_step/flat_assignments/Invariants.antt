use Rattle.std.proofs.Common.{◌≡◌, map}
use Rattle.pb_model_tree.specs.Form as flat
use Rattle.pb_protocol_tree.specs.Form.{assignment_form}
use Rattle.pb_protocol_unfolder.specs.Plain.{flat_assignment}
use Rattle.pb_protocol_unfolder.proofs.plain_step.flat_assignments.Given as goal

abbrev pub invariant-loop-assignment : goal.invariant-loop-assignment
invariant-loop-assignment l = map flat.assignment_form l.flat_assignments.items ≡ map flat_assignment (map assignment_form l.yielded)
