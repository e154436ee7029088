use Rattle.std.proofs.Common.{◌≡◌, ◌-◌, ◌<◌, suc, sym, ap, ◌∙◌, arith, length, length-drop, drop}
use Rattle.pb_sorts.specs.Carrier.{values_of}
use Rattle.pb_typing.specs.View.{is_positive}
use Rattle.pb_normal.specs.Normal.{Join}
use Rattle.pb_normal.specs.View.{formula_view, term_view}
use Rattle.pb_assembler_scheme.specs.Scheme.{test_of}
use Rattle.pb_assembler_measures.specs.MeasureTerms.{term_load}
use Rattle.pb_assembler_measures.specs.Tests.{signed_term}
use Rattle.pb_assembler_measures.specs.MeasureFormulas.{capped_tally, form_chain, formula_tally, kind_at, kind_by, loops_tally, under_tally}
use Rattle.pb_assembler_measures.proofs.MeasureTallies.{test_by, looped_by, under_by}
use Rattle.pb_assembler_measures.proofs.MeasureChains.{all_from, nested_tally, loops_step, all_loops, kind_step, link_step, second_test, no_test}
use Rattle.pb_assembler_measures.proofs.Tests.{signed}
use Rattle.pb_assembler_measures.proofs.measure_formula.+formulas.Goals as goal
use Rattle.pb_assembler_measures.proofs.FormulaWeight.{weight, formulas_weight, weight-join, formula_lighter, join_is}

pub measure_each-loop-left-preserved : goal.measure_each-loop-left-preserved
measure_each-loop-left-preserved t c =
    let cs = c.args.carriers.now in
    let k = c.loop-left.left - 1 in
    let x = c.index-carriers-left.result in
    let own = formula_tally c.args.layout.now c.junction_of-kind.result (formula_view c.args.body.now) in
    let a = c.loop-left.invariant.0 in
    let b = c.loop-left-test.true in
    let same : suc k ≡ c.loop-left.left = omega (arith, b) in
    let below : k < length cs = omega (arith, a, b) in (
      omega (arith, a),
      c.looped-tally.ensures
          ∙ looped_by c.size-count.result (length (values_of x)) c.loop-left.tally (loops_tally (drop (suc k) cs) own)
          c.size-count.ensures.count
          (c.loop-left.invariant.1 ∙ ap (λ n. capped_tally (loops_tally (drop n cs) own)) (sym same))
          ∙ sym (ap capped_tally (loops_step cs k x own below c.index-carriers-left.is)),
    )

pub measure_each-returns : goal.measure_each-returns
measure_each-returns t c slot =
    let cs = c.args.carriers.now in
    let callees = c.args.layout.now in
    let m = c.junction_of-kind.result in
    let a = c.args.around in
    let own = formula_tally callees m (formula_view c.args.body.now) in
    let e = c.is_empty.ensures in
    let f = c.if-is_empty.false in
    let some : 0 < length cs = grind (arith, e, f) in
    let b = c.loop-left-test.false in
    c.under_tally.ensures
    ∙ under_by m a c.loop-left.tally (loops_tally cs own) (c.loop-left.invariant.1 ∙ ap capped_tally (all_loops cs c.loop-left.left own (omega (arith, b))))
    ∙ ap (λ k. capped_tally (under_tally k a (loops_tally cs (formula_tally callees k (formula_view c.args.body.now))))) c.junction_of-kind.ensures
    ∙ sym (ap capped_tally (nested_tally callees c.args.quantifier a slot cs (formula_view c.args.body.now) some))

pub measure_formula-returns-in-Test : goal.measure_formula-returns-in-Test
measure_formula-returns-in-Test t c =
    let x = term_view c.in-Test.term.now in
    let even = is_positive c.in-Test.polarity in
    c.test_tally.ensures
    ∙ test_by c.measure_tested.result (term_load (signed_term even x)) c.measure_tested.ensures
    ∙ sym (ap (λ y. capped_tally (formula_tally c.args.layout.now c.args.around y)) (ap formula_view c.in-Test.is ∙ signed even x))

pub measure_formula-measure_join-requires : goal.measure_formula-measure_join-requires
measure_formula-measure_join-requires t c =
    omega (arith, c.decreases, ap weight c.in-Join.is ∙ weight-join c.in-Join.junction c.in-Join.first c.in-Join.rest, ap weight c.deref.ensures, ap formulas_weight c.deref-in-Join.ensures.value)

pub measure_formula-returns-in-Join : goal.measure_formula-returns-in-Join
measure_formula-returns-in-Join t c =
    c.measure_join.ensures
    ∙ ap (λ y. capped_tally (formula_tally c.args.layout.now c.args.around y))
    (join_is c.args.formula.now c.deref.result.now c.in-Join.junction c.in-Join.first c.in-Join.rest
    c.deref-in-Join.result.now c.in-Join.is c.deref.ensures c.deref-in-Join.ensures.value)

pub measure_join-measure_formula-tally-requires : goal.measure_join-measure_formula-tally-requires
measure_join-measure_formula-tally-requires t c =
    let e = c.is_empty.ensures in
    let f = c.if-is_empty.false in
    let below : length c.args.rest.now - 1 < length c.args.rest.now = grind (arith, e, f) in
    omega (arith, c.decreases, formula_lighter c.args.rest.now (length c.args.rest.now - 1) c.index-rest-left.result below c.index-rest-left.is)

pub measure_join-measure_link-tally-requires : goal.measure_join-measure_link-tally-requires
measure_join-measure_link-tally-requires t c =
    let m = c.args.junction in
    let rest = c.args.rest.now in
    let left = c.loop-left.left in
    let k = left - 1 in
    let x = (c.index-rest-left-in-loop-left).result in
    let kind = c.kind_behind-kind.result in
    let lead = c.leading_tests-leading.ensures in
    let leading = c.leading_tests-leading.result in
    let a = c.loop-left.invariant.0 in
    let b = c.loop-left-test.true in
    let same : suc k ≡ left = omega (arith, b) in
    let below : k < length rest = omega (arith, a) in
    let all = all_from rest left in
    let kinds =
    ap (kind_at m kind leading) (sym same)
    ∙ ap (λ n. kind_at m kind n (suc k)) lead
    ∙ kind_step m kind rest k x below (c.index-rest-left-in-loop-left).is
    ∙ ap (λ n. kind_by (test_of (formula_view x)) m (kind_at m kind n k)) (sym lead)
    ∙ ap (kind_by (test_of (formula_view x)) m) (sym c.kind_at-own.ensures) in (
      omega (arith, c.decreases, formula_lighter rest k x below (c.index-rest-left-in-loop-left).is),
      (
        omega (arith, a, ap length all, length-drop left rest),
        c.loop-left.invariant.1
            ∙ ap (λ d. capped_tally (formula_tally c.args.layout.now d (form_chain m (drop left rest)))) kinds
            ∙ ap (λ fs. capped_tally (formula_tally c.args.layout.now (kind_by (test_of (formula_view x)) m c.kind_at-own.result) (form_chain m fs))) (sym all),
      ),
    )

pub measure_join-loop-left-preserved : goal.measure_join-loop-left-preserved
measure_join-loop-left-preserved t c =
    let m = c.args.junction in
    let rest = c.args.rest.now in
    let left = c.loop-left.left in
    let k = left - 1 in
    let x = (c.index-rest-left-in-loop-left).result in
    let callees = c.args.layout.now in
    let a = c.loop-left.invariant.0 in
    let b = c.loop-left-test.true in
    let same : suc k ≡ left = omega (arith, b) in (
      omega (arith, a),
      c.measure_link-tally.ensures
          ∙ ap (λ fs. capped_tally (formula_tally callees c.kind_at-own.result (Join m (formula_view x) (form_chain m fs)))) (all_from rest left)
          ∙ ap (λ d. capped_tally (formula_tally callees d (Join m (formula_view x) (form_chain m (drop left rest))))) c.kind_at-own.ensures
          ∙ ap (λ y. capped_tally
          (formula_tally callees (kind_at m c.kind_behind-kind.result c.leading_tests-leading.result k) y))
          (ap (λ n. Join m (formula_view x) (form_chain m (drop n rest))) (sym same)
          ∙ link_step m rest k x (omega (arith, a, b)) (c.index-rest-left-in-loop-left).is),
    )

pub measure_untested-returns-in-Some : goal.measure_untested-returns-in-Some
measure_untested-returns-in-Some t c =
    let m = c.args.chain.junction in
    let chain = form_chain m c.args.behind.now in
    c.tested_tally.ensures
    ∙ second_test c.args.layout.now m c.args.chain.around (formula_view c.args.operand.now) chain c.in-Some.load
    c.measure_formula-own.result c.requires.untested (sym c.in-Some.is ∙ c.only_test.ensures m) c.measure_formula-own.ensures

pub measure_untested-returns-in-None : goal.measure_untested-returns-in-None
measure_untested-returns-in-None t c =
    let m = c.args.chain.junction in
    let chain = form_chain m c.args.behind.now in
    c.under_tally.ensures
    ∙ ap (λ y. capped_tally (under_tally m c.args.chain.around y)) c.after-both.ensures
    ∙ no_test c.args.layout.now m c.args.chain.around (formula_view c.args.operand.now) chain
    (c.measure_formula-own-in-None).result c.args.rest c.requires.untested
    (sym c.in-None.is ∙ c.only_test.ensures m) (c.measure_formula-own-in-None).ensures c.requires.rest
