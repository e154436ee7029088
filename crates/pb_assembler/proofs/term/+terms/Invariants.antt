use Rattle.std.proofs.Common.{◌+◌, ◌<◌, length, drop, take}
use Rattle.pb_normal.specs.View.{term_of_operands, link_views, term_view}
use Rattle.pb_assembler_scheme.specs.Scheme.{data_piece}
use Rattle.pb_assembler.specs.Emitted.{Emits, nowhere}
use Rattle.pb_assembler_measures.proofs.Views.{chain_from}
use Rattle.pb_typing_tree.proofs.Weight.{weight, terms_weight, links_weight}
use Rattle.pb_assembler.proofs.term.+terms.Given as goal

abbrev pub decreases-emit_term : goal.decreases-emit_term
decreases-emit_term l = weight l.term.now

abbrev pub decreases-emit_one : goal.decreases-emit_one
decreases-emit_one l = 1 + weight l.operand.now

abbrev pub decreases-emit_two : goal.decreases-emit_two
decreases-emit_two l = 1 + (weight l.left.now + weight l.right.now)

abbrev pub decreases-emit_beside : goal.decreases-emit_beside
decreases-emit_beside l = 1 + weight l.operand.now

abbrev pub decreases-emit_choice : goal.decreases-emit_choice
decreases-emit_choice l = 1 + (weight l.condition.now + (weight l.positive.now + weight l.negative.now))

abbrev pub decreases-emit_operand : goal.decreases-emit_operand
decreases-emit_operand l = 2 + weight l.operand.now

abbrev pub decreases-emit_chain : goal.decreases-emit_chain
decreases-emit_chain l = 3 + (weight l.first.now + terms_weight l.links.now)

abbrev pub decreases-emit_arithmetic : goal.decreases-emit_arithmetic
decreases-emit_arithmetic l = 3 + (weight l.first.now + links_weight l.links.now)

abbrev pub decreases-emit_chain-loop-left : goal.decreases-emit_chain-loop-left
decreases-emit_chain-loop-left l = l.left

-- the operands from this one on are emitted
abbrev pub invariant-emit_chain-loop-left : goal.invariant-emit_chain-loop-left
invariant-emit_chain-loop-left l =
    (l.left < length l.links) × Emits (data_piece (chain_from l.connective (drop l.left l.links))) nowhere l.fn.builder l.builder

-- the operands before this one are emitted
abbrev pub invariant-emit_arithmetic-loop-link : goal.invariant-emit_arithmetic-loop-link
invariant-emit_arithmetic-loop-link l =
    Emits (data_piece (term_of_operands (term_view l.first) (link_views (take l.link-index l.links)))) nowhere l.fn.builder l.builder
