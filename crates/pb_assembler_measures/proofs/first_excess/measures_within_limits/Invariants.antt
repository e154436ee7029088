use Rattle.pb_assembler_measures.proofs.MeasureExcess.{MeasuredTo}
use Rattle.pb_assembler_measures.proofs.first_excess.measures_within_limits.Given as goal

-- the equations before this one are measured, and keep the limits
abbrev pub invariant-loop-equation : goal.invariant-loop-equation
invariant-loop-equation l = MeasuredTo l.normal.typed.now.layout l.equation-items l.equation-index l.all.items
