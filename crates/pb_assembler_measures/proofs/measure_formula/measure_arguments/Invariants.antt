use Rattle.std.proofs.Common.{◌≡◌, ◌≤◌, length, map, drop}
use Rattle.pb_normal.specs.View.{argument_view}
use Rattle.pb_assembler_scheme.specs.Scheme.{any_tested}
use Rattle.pb_assembler_measures.specs.MeasureTerms.{capped_load}
use Rattle.pb_assembler_measures.specs.MeasureFormulas.{arguments_load}
use Rattle.pb_assembler_measures.proofs.measure_formula.measure_arguments.Given as goal

abbrev pub decreases-loop-left : goal.decreases-loop-left
decreases-loop-left l = l.left

-- the arguments from this one on are counted
abbrev pub invariant-loop-left : goal.invariant-loop-left
invariant-loop-left l =
    (l.left ≤ length l.arguments)
    × ((l.any ≡ any_tested (drop l.left l.carriers) (map argument_view (drop l.left l.arguments)))
    × (l.load ≡ capped_load (arguments_load (drop l.left l.carriers) (map argument_view (drop l.left l.arguments)))))
