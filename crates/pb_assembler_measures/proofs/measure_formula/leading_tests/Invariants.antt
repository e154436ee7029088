use Rattle.std.proofs.Common.{◌≡◌, ◌+◌, ◌-◌, ◌≤◌, length, drop}
use Rattle.pb_assembler_measures.specs.MeasureFormulas.{leading_tests}
use Rattle.pb_assembler_measures.proofs.measure_formula.leading_tests.Given as goal

abbrev pub decreases-loop-count : goal.decreases-loop-count
decreases-loop-count l = length l.operands - l.count

-- all operands before this one are tests
abbrev pub invariant-loop-count : goal.invariant-loop-count
invariant-loop-count l = (l.count ≤ length l.operands) × (leading_tests l.operands ≡ l.count + leading_tests (drop l.count l.operands))
