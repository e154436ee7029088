use Rattle.std.proofs.Common.{◌≡◌, ◌-◌, ◌<◌, suc, ◌||◌, sym, ap, ◌∙◌, refl, arith, length, map, drop}
use Rattle.std.specs.List.{slice_get}
use Rattle.pb_normal.specs.View.{argument_view, term_view}
use Rattle.pb_assembler_scheme.specs.Scheme.{any_tested}
use Rattle.pb_assembler_measures.specs.MeasureTerms.{capped_load, term_load}
use Rattle.pb_assembler_measures.specs.MeasureFormulas.{arguments_load, is_tested}
use Rattle.pb_assembler_measures.proofs.MeasureTallies.{argument_by}
use Rattle.pb_assembler_measures.proofs.MeasureArguments.{argument_step, tested_step, no_arguments, none_tested, none_loaded}
use Rattle.pb_assembler_measures.proofs.measure_formula.measure_arguments.Goals as goal

pub loop-left-init : goal.loop-left-init
loop-left-init c =
    let cs = c.args.carriers.now in
    let xs = c.args.arguments.now in
    let n = length xs in
    let e = no_arguments cs xs n refl in
    (omega arith, (sym (ap (any_tested (drop n cs)) e ∙ none_tested (drop n cs)), c.nothing-load.ensures ∙ sym (ap capped_load (ap (arguments_load (drop n cs)) e ∙ none_loaded (drop n cs)))))

pub loop-left-preserved : goal.loop-left-preserved
loop-left-preserved c =
    let cs = c.args.carriers.now in
    let xs = c.args.arguments.now in
    let left = c.loop-left.left in
    let k = left - 1 in
    let x = c.index-arguments-left.result in
    let a = c.loop-left.invariant.0 in
    let b = c.loop-left-test.true in
    let same : suc k ≡ left = omega (arith, b) in
    let below : k < length xs = omega (arith, a, b) in
    let later = c.loop-left.invariant.1.0 ∙ ap (λ n. any_tested (drop n cs) (map argument_view (drop n xs))) (sym same) in
    let rest = c.loop-left.invariant.1.1 ∙ ap (λ n. capped_load (arguments_load (drop n cs) (map argument_view (drop n xs)))) (sym same) in (
      omega (arith, a),
      (
        c.either-any.ensures ∙ ap (λ t. t || c.loop-left.any) c.is_tested-tested.ensures
            ∙ ap (λ t. is_tested (slice_get cs k) (argument_view x).shape || t) later
            ∙ sym (tested_step cs xs k x below c.index-arguments-left.is),
        c.argument_load-load.ensures
            ∙ argument_by c.is_tested-tested.result (is_tested (slice_get cs k) (argument_view x).shape) c.loop-left.any
            (any_tested (drop (suc k) cs) (map argument_view (drop (suc k) xs))) c.measure_term-own.result
            c.loop-left.load (term_load (term_view x.term))
            (arguments_load (drop (suc k) cs) (map argument_view (drop (suc k) xs))) c.is_tested-tested.ensures later
            c.measure_term-own.ensures rest ∙ sym (ap capped_load (argument_step cs xs k x below c.index-arguments-left.is)),
      ),
    )
