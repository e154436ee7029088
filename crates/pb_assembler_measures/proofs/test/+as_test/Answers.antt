use Rattle.std.proofs.Common.{◌≡◌, ◌<◌, ◌∙◌, sym, ap, arith, length}
use Rattle.pb_typing.specs.View.{is_positive}
use Rattle.pb_normal.specs.declared.formula.Formula.{Formula}
use Rattle.pb_normal.specs.View.{formula_view, term_view}
use Rattle.pb_assembler_scheme.specs.Scheme.{test_of}
use Rattle.pb_assembler_measures.proofs.FormulaWeight.{alone, several, no_test}
use Rattle.pb_assembler_measures.proofs.Tests.{signed}
use Rattle.pb_assembler_measures.proofs.test.+as_test.Goals as goal

pub returns-in-Test : goal.returns-in-Test
returns-in-Test t c = sym (ap test_of (ap formula_view c.in-Test.is ∙ signed (is_positive c.in-Test.polarity) (term_view c.in-Test.term.now)))

pub returns-then-is_empty : goal.returns-then-is_empty
returns-then-is_empty t c =
    let e = c.is_empty.ensures in
    let f = c.if-is_empty.true in
    let none : length c.in-Join.rest.items ≡ 0 = grind (arith, e, f) in
    c.as_test.ensures ∙ ap test_of (alone c.args.formula.now c.deref.result.now c.in-Join.junction c.in-Join.first c.in-Join.rest c.in-Join.is c.deref.ensures none)

pub returns-else-is_empty : goal.returns-else-is_empty
returns-else-is_empty t c =
    let e = c.is_empty.ensures in
    let f = c.if-is_empty.false in
    let some : 0 < length c.in-Join.rest.items = grind (arith, e, f) in
    several c.args.formula.now c.in-Join.junction c.in-Join.first c.in-Join.rest c.in-Join.is some

pub returns-else-is_empty-2 : goal.returns-else-is_empty-2
returns-else-is_empty-2 t c =
    let e = (c.is_empty-in-Each).ensures in
    let f = (c.if-is_empty-2).false in
    let some : 0 < length c.in-Each.carriers.now = grind (arith, e, f) in
    no_test c.in-Each.quantifier c.in-Each.slot c.in-Each.carriers.now _ some ∙ sym (ap (λ (f : Formula). test_of (formula_view f)) c.in-Each.is)
