use Rattle.std.proofs.Common.{◌≡◌, ◌∙◌, ◌++◌, subst, Result, Vec, Global}
use Rattle.std.specs.Prelude.{IfOk}
use Rattle.std.specs.declared.alloc.AllocError.{AllocError}
use Rattle.pb_typing_tree.specs.declared.formula.Formula.{Formula}
use Rattle.pb_typing_tree.specs.View.{formula_views, term_views}
use Rattle.pb_typing.specs.Value.{tail}
use Rattle.pb_typing.proofs.ValueMade.{terms-made, formulas-made}
use Rattle.pb_typing.proofs.joined.finished.Goals as goal

pub returns-in_ok-first-in-Terms-clause-value : goal.returns-in_ok-first-in-Terms-clause-value
returns-in_ok-first-in-Terms-clause-value c =
    terms-made c.args.connective c.args.state c.in-Terms.first c.in_ok-first-in-Terms.first c.in-Terms.links c.in-Terms.is c.in_ok-first-in-Terms.ensures.ok

pub returns-in_ok-first-in-Formulas-clause-value : goal.returns-in_ok-first-in-Formulas-clause-value
returns-in_ok-first-in-Formulas-clause-value c =
    let q = c.in-Formulas in
    let both = c.in_ok-head-in-Formulas in
    let made =
    subst (λ (r : Result (Vec Formula Global) AllocError). IfOk r
    (λ all. formula_views all.items
    ≡ formula_views q.links.items ++ tail c.args.connective (term_views q.behind.items))) both.ensures.1 c.with_tail-operands.ensures in
    formulas-made c.args.connective c.args.state q.first q.links both.links q.behind c.in_ok-first-in-Formulas.first q.is (c.in_ok-first-in-Formulas.ensures.ok ∙ both.ensures.0) made
