use Rattle.std.proofs.Common.{◌+◌, ◌*◌}
use Rattle.pb_typing.specs.View.{is_positive}
use Rattle.pb_typing.proofs.FormulaSteps.{AreDone}
use Rattle.pb_typing.proofs.FormulaWeight.{weight, links_weight}
use Rattle.pb_typing.proofs.formula.+formulas.Given as goal

abbrev pub decreases-check_formula : goal.decreases-check_formula
decreases-check_formula l = 2 * weight l.formula.now

abbrev pub decreases-check_body : goal.decreases-check_body
decreases-check_body l = 2 * weight l.body.now + 1

abbrev pub decreases-check_links : goal.decreases-check_links
decreases-check_links l = 2 * links_weight l.links.now + 1

abbrev pub invariant-check_links-loop-index : goal.invariant-check_links-loop-index
invariant-check_links-loop-index l =
    AreDone l.context l.connective (is_positive l.polarity) l.links l.fn.carriers.items l.index l.operands.items l.carriers.items
