use Rattle.std.proofs.Common.{◌+◌}
use Rattle.pb_typing.specs.View.{is_positive}
use Rattle.pb_normal.proofs.Operands.{AreSigned}
use Rattle.pb_typing_tree.proofs.FormulaWeight.{weight, links_weight}
use Rattle.pb_normal.proofs.signed.+formulas.Given as goal

abbrev pub decreases-signed_form : goal.decreases-signed_form
decreases-signed_form l = weight l.formula.now

abbrev pub decreases-signed_chain : goal.decreases-signed_chain
decreases-signed_chain l = 3 + (weight l.first.now + links_weight l.links.now)

abbrev pub decreases-signed_links : goal.decreases-signed_links
decreases-signed_links l = 1 + links_weight l.links.now

abbrev pub invariant-signed_links-loop-index : goal.invariant-signed_links-loop-index
invariant-signed_links-loop-index l = AreSigned l.connective (is_positive l.polarity) l.links l.index l.rest.items
