use Rattle.std.proofs.Common.{◌+◌, ◌*◌}
use Rattle.pb_typing_tree.specs.View.{shape_view}
use Rattle.pb_typing_terms.proofs.OperandSteps.{AreCalculated, AreChecked}
use Rattle.pb_typing_terms.proofs.Weight.{weight, links_weight, arithmetic_weight, arguments_weight}
use Rattle.pb_typing_terms.proofs.term.+terms.Given as goal

abbrev pub decreases-check_term : goal.decreases-check_term
decreases-check_term l = 3 * weight l.term.now

abbrev pub decreases-check_chain : goal.decreases-check_chain
decreases-check_chain l = 3 * (weight l.first.now + links_weight l.links.now) + 3

abbrev pub decreases-check_links : goal.decreases-check_links
decreases-check_links l = 3 * links_weight l.links.now + 2

abbrev pub decreases-check_link : goal.decreases-check_link
decreases-check_link l = 3 * weight l.link.now.operand + 1

abbrev pub decreases-check_arithmetic : goal.decreases-check_arithmetic
decreases-check_arithmetic l = 3 * (weight l.first.now + arithmetic_weight l.links.now) + 3

abbrev pub decreases-check_operands : goal.decreases-check_operands
decreases-check_operands l = 3 * arithmetic_weight l.links.now + 2

abbrev pub decreases-check_application : goal.decreases-check_application
decreases-check_application l = 3 * arguments_weight l.arguments.now + 2

abbrev pub decreases-check_one : goal.decreases-check_one
decreases-check_one l = 3 * arguments_weight l.arguments.now + 1

abbrev pub decreases-check_two : goal.decreases-check_two
decreases-check_two l = 3 * arguments_weight l.arguments.now + 1

abbrev pub decreases-check_choice : goal.decreases-check_choice
decreases-check_choice l = 3 * arguments_weight l.arguments.now + 1

abbrev pub invariant-check_links-loop-index : goal.invariant-check_links-loop-index
invariant-check_links-loop-index l = AreChecked l.context l.links (shape_view l.fn.first) (shape_view l.left) l.index l.operands.items

abbrev pub invariant-check_operands-loop-link : goal.invariant-check_operands-loop-link
invariant-check_operands-loop-link l = AreCalculated l.context l.links (shape_view l.fn.first) (shape_view l.shape) l.link-index l.operands.items
