use Rattle.std.proofs.Common.{◌≡◌, drop, map}
use Rattle.pb_protocol_tree.specs.Form.{assignment_form}
use Rattle.pb_protocol_typing.specs.Fault.{first_fault}
use Rattle.pb_protocol_typing.specs.Steps.{again_fault}
use Rattle.pb_protocol_typing.proofs.step.assigned_again.Given as goal

-- the first fault is that of the assignments that are left
abbrev pub invariant-loop-later : goal.invariant-loop-later
invariant-loop-later l =
    let fault = again_fault (assignment_form l.earlier) in
    first_fault fault (map assignment_form l.others) ≡ first_fault fault (map assignment_form (drop l.later-index l.others))
