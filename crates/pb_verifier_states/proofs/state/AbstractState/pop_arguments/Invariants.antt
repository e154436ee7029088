use Rattle.std.proofs.Common.{◌≡◌, ◌≤◌, List, length, take, reverse}
use Rattle.pb_bytecode_program.specs.Transfer.{Flow, abstract_pop_args}
use Rattle.pb_bytecode_program.specs.declared.domain.AbstractValue.{AbstractValue}
use Rattle.pb_verifier_states.proofs.state.AbstractState.pop_arguments.Given as goal

abbrev pub decreases-loop-left : goal.decreases-loop-left
decreases-loop-left l = l.left

-- the arguments so far are popped
abbrev pub invariant-loop-left : goal.invariant-loop-left
invariant-loop-left l = record {
  popped : (go : List AbstractValue → Flow) → abstract_pop_args (reverse l.carriers) l.initial.self.operands go ≡ abstract_pop_args (reverse (take l.left l.carriers)) l.self.operands go;
  same : l.self ≡ record l.initial.self { operands = l.self.operands };
  within : l.left ≤ length l.carriers;
  there : l.left ≤ length l.self.operands;
}
