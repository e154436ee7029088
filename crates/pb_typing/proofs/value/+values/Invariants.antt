use Rattle.std.proofs.Common.{◌+◌, ◌*◌}
use Rattle.pb_typing_tree.specs.View.{shape_view}
use Rattle.pb_typing.proofs.ValueNodes.{AreDone}
use Rattle.pb_typing_terms.proofs.Weight.{weight, links_weight}
use Rattle.pb_typing.proofs.value.+values.Given as goal

abbrev pub decreases-check_value : goal.decreases-check_value
decreases-check_value l = 3 * weight l.term.now

abbrev pub decreases-check_truth : goal.decreases-check_truth
decreases-check_truth l = 3 * weight l.term.now + 1

abbrev pub decreases-check_body : goal.decreases-check_body
decreases-check_body l = 3 * weight l.body.now + 2

abbrev pub decreases-check_chain : goal.decreases-check_chain
decreases-check_chain l = 3 * (weight l.first.now + links_weight l.links.now) + 3

abbrev pub decreases-check_links : goal.decreases-check_links
decreases-check_links l = 3 * links_weight l.links.now + 2

abbrev pub decreases-check_link : goal.decreases-check_link
decreases-check_link l = 3 * weight l.link.now.operand + 1

abbrev pub invariant-check_links-loop-index : goal.invariant-check_links-loop-index
invariant-check_links-loop-index l =
    AreDone l.context l.links (shape_view l.fn.first) (shape_view l.left) l.fn.carriers.items l.index l.operands.items l.carriers.items
