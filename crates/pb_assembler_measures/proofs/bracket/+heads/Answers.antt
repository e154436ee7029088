use Rattle.std.proofs.Common.{◌≡◌, ◌<◌, length, sym, ap, ◌∙◌, arith}
use Rattle.pb_normal.specs.declared.formula.Formula.{Formula}
use Rattle.pb_normal.specs.View.{formula_view}
use Rattle.pb_assembler_scheme.specs.Scheme.{head}
use Rattle.pb_assembler_measures.proofs.MeasureHeads.{join_head, nested_head}
use Rattle.pb_assembler_measures.proofs.bracket.+heads.Goals as goal
use Rattle.pb_assembler_measures.proofs.FormulaWeight.{alone as join_one}

pub returns-then-is_empty : goal.returns-then-is_empty
returns-then-is_empty t c =
    let e = c.is_empty.ensures in
    let f = c.if-is_empty.true in
    let none : length c.in-Join.rest.items ≡ 0 = grind (arith, e, f) in
    c.outermost.ensures ∙ ap head (join_one c.args.formula.now c.deref.result.now c.in-Join.junction c.in-Join.first c.in-Join.rest c.in-Join.is c.deref.ensures none)

pub returns-else-is_empty : goal.returns-else-is_empty
returns-else-is_empty t c =
    let e = c.is_empty.ensures in
    let f = c.if-is_empty.false in
    let some : 0 < length c.in-Join.rest.items = grind (arith, e, f) in
    join_head c.args.formula.now c.in-Join.junction c.in-Join.first c.in-Join.rest c.in-Join.is some

pub returns-else-is_empty-2 : goal.returns-else-is_empty-2
returns-else-is_empty-2 t c =
    let e = (c.is_empty-in-Each).ensures in
    let f = c.if-is_empty-2.false in
    let some : 0 < length c.in-Each.carriers.now = grind (arith, e, f) in
    c.junction_of.ensures ∙ sym (ap (λ (f : Formula). head (formula_view f)) c.in-Each.is ∙ nested_head c.in-Each.quantifier c.in-Each.slot c.in-Each.carriers.now _ some)
