use Rattle.std.proofs.Common.{◌≡◌, ◌+◌, drop}
use Rattle.std.specs.Prelude.{sum_by}
use Rattle.pb_protocol_unfolder.specs.Operators.{argument_operators, operand_operators, operation_operators}
use Rattle.pb_protocol_unfolder.proofs.room.Room.+operators.Given as goal

-- what is left with what is still to be taken
abbrev pub invariant-take_links-loop-link : goal.invariant-take_links-loop-link
invariant-take_links-loop-link l =
    l.initial.self.operators + sum_by operand_operators (drop l.link-index l.links) ≡ l.self.operators + sum_by operand_operators l.links

abbrev pub invariant-take_operations-loop-link : goal.invariant-take_operations-loop-link
invariant-take_operations-loop-link l =
    l.initial.self.operators + sum_by operation_operators (drop l.link-index l.links) ≡ l.self.operators + sum_by operation_operators l.links

abbrev pub invariant-take_arguments-loop-argument : goal.invariant-take_arguments-loop-argument
invariant-take_arguments-loop-argument l =
    l.initial.self.operators + sum_by argument_operators (drop l.argument-index l.arguments) ≡ l.self.operators + sum_by argument_operators l.arguments
