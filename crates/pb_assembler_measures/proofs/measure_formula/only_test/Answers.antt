use Rattle.std.proofs.Common.{◌∙◌, arith}
use Rattle.pb_assembler_measures.proofs.MeasureChains.{many_no_test, only_load}
use Rattle.pb_assembler_measures.proofs.measure_formula.only_test.Goals as goal

pub returns-then-operands-gt1 : goal.returns-then-operands-gt1
returns-then-operands-gt1 c joined =
    let a = c.if-operands-gt1.true in
    many_no_test joined c.args.operands.now (omega (arith, a))

pub returns-else-operands-gt1 : goal.returns-else-operands-gt1
returns-else-operands-gt1 c joined =
    let a = c.if-operands-gt1.false in
    let b = c.requires in
    c.test_load.ensures ∙ only_load joined c.args.operands.now c.index-operands-0.result (omega (arith, a, b)) c.index-operands-0.is
