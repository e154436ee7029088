use Rattle.std.proofs.Common.{◌≡◌, ◌+◌}
use Rattle.pb_typing_tree.proofs.FormulaWeight.{links_weight, weight}
use Rattle.pb_typing_calls.proofs.ChainMade.{IsLeft}
use Rattle.pb_typing_calls.proofs.TuplesMade.{IsUnderWay, remaining}
use Rattle.pb_typing_calls.proofs.made.+made.Given as goal

abbrev pub decreases-makes_call : goal.decreases-makes_call
decreases-makes_call l = weight l.formula.now

abbrev pub decreases-makes_call_for : goal.decreases-makes_call_for
decreases-makes_call_for l = 1 + weight l.body.now

abbrev pub decreases-chain_makes_call : goal.decreases-chain_makes_call
decreases-chain_makes_call l = 1 + (weight l.first.now + links_weight l.links.now)

-- the slots are as they were, and the operands that are left decide
abbrev pub invariant-chain_makes_call-loop-k : goal.invariant-chain_makes_call-loop-k
invariant-chain_makes_call-loop-k l =
    (l.slots ≡ l.fn.slots)
    × IsLeft l.sought l.fn.slots l.connective l.first l.links l.k l.operand

abbrev pub invariant-makes_call_for-tuples : goal.invariant-makes_call_for-tuples
invariant-makes_call_for-tuples l = IsUnderWay l.sought l.loops l.body l.fn.slots l.slots

abbrev pub decreases-makes_call_for-tuples : goal.decreases-makes_call_for-tuples
decreases-makes_call_for-tuples l = remaining l.loops l.slots
