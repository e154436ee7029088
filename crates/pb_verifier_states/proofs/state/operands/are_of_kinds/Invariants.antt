use Rattle.std.proofs.Common.{◌≡◌, ◌-◌, length, take, drop, reverse}
use Rattle.pb_verifier_states.specs.Kinds.{are_of_kinds}
use Rattle.pb_verifier_states.proofs.state.operands.are_of_kinds.Given as goal

-- the operands so far are of their kinds
abbrev pub invariant-loop-depth : goal.invariant-loop-depth
invariant-loop-depth l = are_of_kinds (reverse l.carriers) l.operands ≡ are_of_kinds (reverse (take (length l.carriers - l.depth) l.carriers)) (drop l.depth l.operands)
