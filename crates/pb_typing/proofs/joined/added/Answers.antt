use Rattle.std.proofs.Common.{◌∙◌, ap, sym}
use Rattle.pb_typing_tree.specs.declared.formula.Formula.{Formula}
use Rattle.pb_typing_tree.specs.declared.term.Term.{Term}
use Rattle.pb_typing_tree.specs.View.{formula_views}
use Rattle.pb_typing.specs.declared.joined.Joined.TheVariants as state
use Rattle.pb_typing.proofs.ValueMade.{added-terms, added-formulas, tests_made}
use Rattle.pb_typing.proofs.joined.added.Goals as goal

pub returns-in_ok-first-in-Terms-Formula : goal.returns-in_ok-first-in-Terms-Formula
returns-in_ok-first-in-Terms-Formula c =
    let q = c.in-Terms-Formula in
    let both = c.in_ok-first-in-Terms-Formula in
    let made = tests_made (formula_views c.new.result.items) q.links.items q.formula both.ensures.1 c.with_tests-tests.ensures in
    added-terms c.args.state c.args.value both.first q.links q.formula c.new.result.items both.links.items c.new-in-Terms-Formula.result.items
    (q.is-0 ∙ ap (λ (x : Term). state.Terms x q.links) (sym both.ensures.0)) q.is-1 c.new.ensures.items made c.new-in-Terms-Formula.ensures.items

pub returns-in_ok-first-in-Formulas-Formula : goal.returns-in_ok-first-in-Formulas-Formula
returns-in_ok-first-in-Formulas-Formula c =
    let q = c.in-Formulas-Formula in
    let both = c.in_ok-first-in-Formulas-Formula in
    let made = tests_made (formula_views q.links.items) q.behind.items q.formula both.ensures.1 c.with_tests-operands.ensures in
    added-formulas c.args.state c.args.value both.first q.links q.behind q.formula both.links.items c.new-in-Formulas-Formula.result.items
    (q.is-0 ∙ ap (λ (x : Formula). state.Formulas x q.links q.behind) (sym both.ensures.0)) q.is-1 made c.new-in-Formulas-Formula.ensures.items
