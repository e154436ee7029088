use Rattle.std.proofs.Common.{◌≡◌, ◌+◌, ◌<◌, ◌≤◌, length, drop}
use Rattle.pb_normal.specs.View.{formula_view}
use Rattle.pb_assembler_measures.specs.MeasureFormulas.{capped_tally, form_chain, formula_tally, kind_at, loops_tally}
use Rattle.pb_assembler_measures.proofs.FormulaWeight.{weight, formulas_weight}
use Rattle.pb_assembler_measures.proofs.measure_formula.+formulas.Given as goal

abbrev pub decreases-measure_formula : goal.decreases-measure_formula
decreases-measure_formula l = weight l.formula.now

abbrev pub decreases-measure_each : goal.decreases-measure_each
decreases-measure_each l = 1 + weight l.body.now

abbrev pub decreases-measure_link : goal.decreases-measure_link
decreases-measure_link l = 2 + weight l.operand.now

abbrev pub decreases-measure_untested : goal.decreases-measure_untested
decreases-measure_untested l = 1 + weight l.operand.now

abbrev pub decreases-measure_join : goal.decreases-measure_join
decreases-measure_join l = 3 + (weight l.first.now + formulas_weight l.rest.now)

abbrev pub decreases-measure_each-loop-left : goal.decreases-measure_each-loop-left
decreases-measure_each-loop-left l = l.left

abbrev pub decreases-measure_join-loop-left : goal.decreases-measure_join-loop-left
decreases-measure_join-loop-left l = l.left

-- the loops from this one on are counted
abbrev pub invariant-measure_each-loop-left : goal.invariant-measure_each-loop-left
invariant-measure_each-loop-left l =
    (l.left ≤ length l.carriers) × (l.tally ≡ capped_tally (loops_tally (drop l.left l.carriers) (formula_tally l.layout l.kind (formula_view l.body))))

-- the operands from this one on are counted
abbrev pub invariant-measure_join-loop-left : goal.invariant-measure_join-loop-left
invariant-measure_join-loop-left l =
    (l.left < length l.rest) × (l.tally ≡ capped_tally (formula_tally l.layout (kind_at l.junction l.kind l.leading l.left) (form_chain l.junction (drop l.left l.rest))))
