use Rattle.std.proofs.Common.{ap, ◌∙◌}
use Rattle.pb_normal.specs.View.{formula_view}
use Rattle.pb_assembler_measures.specs.MeasureFormulas.{capped_tally, formula_tally}
use Rattle.pb_assembler_measures.proofs.MeasureEquation.{equation_measured}
use Rattle.pb_assembler_measures.proofs.measure_equation.measure.Goals as goal

pub returns : goal.returns
returns c p h =
    let f = formula_view c.args.equation.now.right in
    equation_measured c.args.layout.now c.args.equation.now c.measure_formula-tally.result c.bounded.result
    (c.measure_formula-tally.ensures ∙ ap (λ b. capped_tally (formula_tally c.args.layout.now b f)) c.outermost.ensures)
    c.bounded.ensures p h
