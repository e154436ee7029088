use Rattle.std.proofs.Common.{◌≡◌, ◌∙◌, ◌+◌, ◌++◌, suc, ℤ, List, Some, map, take, drop, ap, sym, arith, w64, to_z, of_z}
use Rattle.std.specs.Prelude.{slice_set}
use Rattle.std.proofs.lemmas.Int.{ints}
use Rattle.pb_base_values.proofs.Ends.{passed_word}
use Rattle.pb_typing_values.proofs.Runs.{least, bounds-least, first-tuple}
use Rattle.pb_typing_values.proofs.Filled.{filled-more, filled-all}
use Rattle.pb_typing_values.proofs.odometer.start.Goals as goal

pub loop-index-preserved : goal.loop-index-preserved
loop-index-preserved c =
    let cs = c.args.carriers.now in
    let old = c.args.values.now in
    let i = c.loop-index.index in
    let d = c.index-carriers-index in
    let b = c.bounds-least in
    let next : suc i ≡ i + 1 = omega arith in
    let v = to_z w64 (of_z w64 b.result.0) in
    let is : v ≡ least d.result =
    passed_word b.result.0 (least d.result) (omega (arith, ints, b.ensures.low, b.ensures.order, b.ensures.high))
    (bounds-least d.result b.result.0 b.result.1 b.ensures.interval b.ensures.order) in
    ap (λ (xs : List ℤ). slice_set xs i v) c.loop-index.invariant
    ∙ (filled-more least cs old i d.result v (omega (arith, c.loop-index-test.true, c.requires)) c.requires (is ∙ ap least d.is)
    ∙ ap (λ n. map least (take n cs) ++ drop n old) next)

pub returns-clause-first : goal.returns-clause-first
returns-clause-first c =
    let cs = c.args.carriers.now in
    let old = c.args.values.now in
    first-tuple cs ∙ ap Some (sym (c.loop-index.invariant ∙ filled-all least cs old c.loop-index.index (omega (arith, c.loop-index-test.false, c.requires)) c.requires))
