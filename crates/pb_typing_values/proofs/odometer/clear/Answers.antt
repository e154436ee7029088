use Rattle.std.proofs.Common.{◌≡◌, ◌∙◌, ◌+◌, ◌++◌, suc, ℤ, List, map, take, drop, ap, refl, arith, pos}
use Rattle.std.specs.Prelude.{slice_set}
use Rattle.pb_typing_values.proofs.Filled.{filled-more, filled-all}
use Rattle.pb_typing_values.proofs.odometer.clear.Goals as goal

pub loop-index-preserved : goal.loop-index-preserved
loop-index-preserved c =
    let old = c.args.values.now in
    let i = c.loop-index.index in
    let next : suc i ≡ i + 1 = omega arith in
    ap (λ (xs : List ℤ). slice_set xs i (pos 0)) c.loop-index.invariant
    ∙ (filled-more (λ (v : ℤ). pos 0) old old i (pos 0) (pos 0) (omega (arith, c.loop-index-test.true)) refl refl
    ∙ ap (λ n. map (λ (v : ℤ). pos 0) (take n old) ++ drop n old) next)

pub returns : goal.returns
returns c =
    let old = c.args.values.now in
    c.loop-index.invariant ∙ filled-all (λ (v : ℤ). pos 0) old old c.loop-index.index (omega (arith, c.loop-index-test.false)) refl
