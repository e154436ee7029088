use Rattle.std.proofs.Common.{◌+◌, ◌-◌, ◌≤◌, length}
use Rattle.pb_normal.specs.Normalisation.{dual}
use Rattle.pb_assembler_measures.proofs.FormulaWeight.{weight, formulas_weight}
use Rattle.pb_assembler.proofs.Joins.{AreLeft, Begins, Closes}
use Rattle.pb_assembler.proofs.formula.+formulas.Given as goal

abbrev pub decreases-emit_formula : goal.decreases-emit_formula
decreases-emit_formula l = weight l.formula.now

abbrev pub decreases-emit_each : goal.decreases-emit_each
decreases-emit_each l = 4 + weight l.loops.body.now

abbrev pub decreases-emit_loops : goal.decreases-emit_loops
decreases-emit_loops l = 2 + weight l.loops.body.now

abbrev pub decreases-emit_inside : goal.decreases-emit_inside
decreases-emit_inside l = 2 + (weight l.first.now + formulas_weight l.rest.now)

abbrev pub decreases-emit_outside : goal.decreases-emit_outside
decreases-emit_outside l = 4 + (weight l.first.now + formulas_weight l.rest.now)

abbrev pub decreases-emit_loops-loop-begun : goal.decreases-emit_loops-loop-begun
decreases-emit_loops-loop-begun l = l.count - l.begun

abbrev pub decreases-emit_loops-loop-ended : goal.decreases-emit_loops-loop-ended
decreases-emit_loops-loop-ended l = l.count - l.ended

abbrev pub decreases-emit_inside-loop-behind : goal.decreases-emit_inside-loop-behind
decreases-emit_inside-loop-behind l = length l.behind

abbrev pub decreases-emit_outside-loop-early : goal.decreases-emit_outside-loop-early
decreases-emit_outside-loop-early l = length l.behind

-- loops are begun over the slots before this one
abbrev pub invariant-emit_loops-loop-begun : goal.invariant-emit_loops-loop-begun
invariant-emit_loops-loop-begun l =
    record {
      below : l.begun ≤ l.count;
      begins : Begins l.loops.first l.begun l.fn.builder l.builder;
    }

abbrev pub invariant-emit_loops-loop-ended : goal.invariant-emit_loops-loop-ended
invariant-emit_loops-loop-ended l =
    record {
      below : l.ended ≤ l.count;
      closes : Closes l.ended l.initial.builder l.builder;
    }

-- the operands that are left complete the chain
abbrev pub invariant-emit_inside-loop-behind : goal.invariant-emit_inside-loop-behind
invariant-emit_inside-loop-behind l = AreLeft l.layout l.kind l.kind l.first l.rest l.last.number l.fn.builder l.builder l.left l.behind

abbrev pub invariant-emit_outside-loop-early : goal.invariant-emit_outside-loop-early
invariant-emit_outside-loop-early l = AreLeft l.layout (dual l.around) l.around l.first l.rest l.last.number l.fn.builder l.builder l.left l.behind
