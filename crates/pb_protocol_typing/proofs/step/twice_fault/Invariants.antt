use Rattle.std.proofs.Common.{◌≡◌, drop, map}
use Rattle.pb_protocol_tree.specs.Form.{assignment_form}
use Rattle.pb_protocol_typing.specs.Steps.{twice_fault}
use Rattle.pb_protocol_typing.proofs.step.twice_fault.Given as goal

-- the first fault is that of the assignments that are left
abbrev pub invariant-loop-index : goal.invariant-loop-index
invariant-loop-index l = twice_fault (map assignment_form l.assignments) ≡ twice_fault (map assignment_form (drop l.index l.assignments))
