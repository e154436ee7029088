use Rattle.std.proofs.Common.{◌≡◌, ◌++◌, map, subst, Result, Vec, Global}
use Rattle.std.specs.Prelude.{IfOk}
use Rattle.std.specs.declared.alloc.AllocError.{AllocError}
use Rattle.pb_typing_tree.specs.declared.formula.Formula.{Formula}
use Rattle.pb_typing_tree.specs.Tree.{Test}
use Rattle.pb_typing_tree.specs.View.{formula_views, term_views}
use Rattle.pb_typing.proofs.ValueMade.{with-last}
use Rattle.pb_typing.proofs.joined.with_tests.Goals as goal

pub returns : goal.returns
returns c =
    let kept = c.in_ok-formula.ensures in
    let before = formula_views c.args.formulas.items in
    let tests = map Test (term_views c.args.terms.items) in
    let made = subst (λ (r : Result (Vec Formula Global) AllocError). IfOk r (λ all. formula_views all.items ≡ before ++ tests)) kept.1 c.add_tests-tests.ensures in
    with-last before tests c.in_ok-formula.all.items c.push.new.self.items c.in_ok-formula.formula c.args.last kept.0 made c.in_ok-push.ensures.items
