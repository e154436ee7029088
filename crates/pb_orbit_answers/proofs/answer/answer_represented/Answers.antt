use Rattle.std.proofs.Common.{ℕ, Option, subst}
use Rattle.std.specs.Prelude.{IfSome}
use Rattle.std.proofs.lemmas.Result.{IfOk-weaker}
use Rattle.pb_base.proofs.Faults.{if_refused}
use Rattle.pb_exploration_orbits.specs.Represented.{HasManyRepresentatives, IsExplored}
use Rattle.pb_exploration_orbits.specs.declared.exploration.Explored.{Explored}
use Rattle.pb_orbit_answers.specs.Answers.{LargeGame, ManyReached}
use Rattle.pb_orbit_answers.proofs.Answering.{answers, rows_have_trees}
use Rattle.pb_orbit_answers.proofs.answer.answer_represented.Goals as goal

pub solve_rows-requires-after_bounds : goal.solve_rows-requires-after_bounds
solve_rows-requires-after_bounds g c κs within =
    let m = c.args.verified.now in
    let R = g.P.Representatives.may_replace c.args.representatives.now in
    let explored = subst (λ (found : Option Explored). IfSome found (IsExplored m R)) c.in-Some.is c.in_ok-found.ensures.rows in
    rows_have_trees m R c.in-Some.explored explored c.instances_have_trees.ensures.0 c.instances_have_trees.ensures.1

pub returns-clause-truth : goal.returns-clause-truth
returns-clause-truth g c =
    let m = c.args.verified.now in
    let R = g.P.Representatives.may_replace c.args.representatives.now in
    let explored = subst (λ (found : Option Explored). IfSome found (IsExplored m R)) c.in-Some.is c.in_ok-found.ensures.rows in
    IfOk-weaker c.solve_rows.result _ _ (answers _ c.represented_answers_agree.ensures m R c.in-Some.explored explored) c.solve_rows.ensures.truth

pub returns-clause-too_many : goal.returns-clause-too_many
returns-clause-too_many g c =
    let m = c.args.verified.now in
    let R = g.P.Representatives.may_replace c.args.representatives.now in
    let explored = subst (λ (found : Option Explored). IfSome found (IsExplored m R)) c.in-Some.is c.in_ok-found.ensures.rows in
    if_refused c.solve_rows.result (λ _ large. LargeGame c.in-Some.explored explored large) c.solve_rows.ensures.too_many

pub returns-in_default-clause-too_many : goal.returns-in_default-clause-too_many
returns-in_default-clause-too_many g c =
    let m = c.args.verified.now in
    let R = g.P.Representatives.may_replace c.args.representatives.now in
    ManyReached (subst (λ (n : ℕ). HasManyRepresentatives m R n) c.vertex_limit-most.ensures.limit (c.in_ok-found.ensures.many c.in_default.is))
