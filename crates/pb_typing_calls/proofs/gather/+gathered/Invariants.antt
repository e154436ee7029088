use Rattle.std.proofs.Common.{◌≡◌, ◌+◌}
use Rattle.pb_typing_tree.proofs.FormulaWeight.{links_weight, weight}
use Rattle.pb_typing_calls.specs.MadeCallView.{call_views}
use Rattle.pb_typing_calls.proofs.ChainGathered.{IsChainLeft}
use Rattle.pb_typing_calls.proofs.TuplesGathered.{IsTupleLeft}
use Rattle.pb_typing_calls.proofs.TuplesMade.{remaining}
use Rattle.pb_typing_calls.proofs.gather.+gathered.Given as goal

abbrev pub decreases-push_calls : goal.decreases-push_calls
decreases-push_calls l = weight l.formula.now

abbrev pub decreases-push_calls_for : goal.decreases-push_calls_for
decreases-push_calls_for l = 1 + weight l.body.now

abbrev pub decreases-push_chain_calls : goal.decreases-push_chain_calls
decreases-push_chain_calls l =
    1 + (weight l.chain.now.first.now + links_weight l.chain.now.links.now)

-- the slots are as they were, and the operands that are left make the calls that are missing
abbrev pub invariant-push_chain_calls-loop-k : goal.invariant-push_chain_calls-loop-k
invariant-push_chain_calls-loop-k l =
    (l.slots ≡ l.fn.slots)
    × IsChainLeft l.scope l.fn.slots l.chain.connective l.chain.first.now l.chain.links.now
    (call_views l.fn.calls.items) l.k l.operand (call_views l.calls.items)

abbrev pub invariant-push_calls_for-tuples : goal.invariant-push_calls_for-tuples
invariant-push_calls_for-tuples l =
    IsTupleLeft l.scope l.loops l.body l.fn.slots (call_views l.fn.calls.items) l.slots
    (call_views l.calls.items)

abbrev pub decreases-push_calls_for-tuples : goal.decreases-push_calls_for-tuples
decreases-push_calls_for-tuples l = remaining l.loops l.slots
