use Rattle.std.proofs.Common.{◌≡◌, ◌+◌, ◌<◌, length, drop, take}
use Rattle.pb_normal.specs.View.{term_of_operands, link_views, term_view}
use Rattle.pb_assembler_measures.specs.MeasureTerms.{capped_load, term_load}
use Rattle.pb_assembler_measures.proofs.Views.{chain_from}
use Rattle.pb_typing_tree.proofs.Weight.{weight, terms_weight, links_weight}
use Rattle.pb_assembler_measures.proofs.measure_term.+measures.Given as goal

abbrev pub decreases-measure_term : goal.decreases-measure_term
decreases-measure_term l = weight l.term.now

abbrev pub decreases-measure_one : goal.decreases-measure_one
decreases-measure_one l = 1 + weight l.operand.now

abbrev pub decreases-measure_two : goal.decreases-measure_two
decreases-measure_two l = 1 + (weight l.left.now + weight l.right.now)

abbrev pub decreases-measure_comparison : goal.decreases-measure_comparison
decreases-measure_comparison l = 2 + (weight l.left.now + weight l.right.now)

abbrev pub decreases-measure_beside : goal.decreases-measure_beside
decreases-measure_beside l = 1 + weight l.operand.now

abbrev pub decreases-measure_choice : goal.decreases-measure_choice
decreases-measure_choice l = 1 + (weight l.condition.now + (weight l.positive.now + weight l.negative.now))

abbrev pub decreases-measure_chain : goal.decreases-measure_chain
decreases-measure_chain l = 3 + (weight l.first.now + terms_weight l.links.now)

abbrev pub decreases-measure_arithmetic : goal.decreases-measure_arithmetic
decreases-measure_arithmetic l = 3 + (weight l.first.now + links_weight l.links.now)

abbrev pub decreases-measure_chain-loop-left : goal.decreases-measure_chain-loop-left
decreases-measure_chain-loop-left l = l.left

-- the operands from this one on are counted
abbrev pub invariant-measure_chain-loop-left : goal.invariant-measure_chain-loop-left
invariant-measure_chain-loop-left l =
    (l.left < length l.links) × (l.load ≡ capped_load (term_load (chain_from l.connective (drop l.left l.links))))

-- the operands before this one are counted
abbrev pub invariant-measure_arithmetic-loop-link : goal.invariant-measure_arithmetic-loop-link
invariant-measure_arithmetic-loop-link l =
    l.load ≡ capped_load (term_load (term_of_operands (term_view l.first) (link_views (take l.link-index l.links))))
