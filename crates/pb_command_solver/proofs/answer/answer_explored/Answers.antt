use Rattle.std.proofs.Common.{List, ap, ◌∙◌, sym, subst, arith, length}
use Rattle.pb_base.proofs.Faults.{if_fault}
use Rattle.pb_fixpoint_trees.specs.Row.{TokenRow}
use Rattle.pb_game.specs.Games.{vertex_count}
use Rattle.pb_game_of_trees.specs.Held.{Hold}
use Rattle.pb_game_of_trees.specs.Drafted.{IsModuleDraft}
use Rattle.pb_game_of_trees.specs.declared.tree_game.TreeGame.{TreeGame}
use Rattle.pb_command_solver.specs.Parts.{IsTruthIn}
use Rattle.pb_command_solver.proofs.Answered.{drafted_rows, game_of_draft, answer_is}
use Rattle.pb_command_solver.proofs.Rows.{module_rows, too_large}
use Rattle.pb_command_solver.proofs.answer.answer_explored.Goals as goal

pub draft_module-requires-clause-rows : goal.draft_module-requires-clause-rows
draft_module-requires-clause-rows g c = λ κs within. module_rows _ _ _ c.rows.ensures c.requires

pub count_cut-cut-requires : goal.count_cut-cut-requires
count_cut-cut-requires g c =
    let some = c.instances_have_trees.ensures in
    let same = drafted_rows c.args.verified.now _ _ c.in-Ok.ensures.draft some.0 some.1 in
    omega (arith, same, c.in-Ok.drafted.few, ap length c.rows.ensures, ap length c.rows-in-Ok.ensures)

pub finish-requires : goal.finish-requires
finish-requires g c =
    let some = c.instances_have_trees.ensures in
    (_, some.0, _, _, c.in-Ok.ensures.draft some.0 some.1)

pub returns-in_ok-solved-in-Ok : goal.returns-in_ok-solved-in-Ok
returns-in_ok-solved-in-Ok g c =
    let m = c.args.verified.now in
    let rows = c.args.explored in
    let kept = c.in_ok-solved-in-Ok.ensures.built in
    let draft : IsModuleDraft m rows c.in-Ok.drafted = subst (λ (rs : List TokenRow). IsModuleDraft m rs c.in-Ok.drafted) c.rows.ensures c.in-Ok.ensures.draft in
    answer_is m rows c.in_ok-built-in-Ok.built c.requires (game_of_draft m rows c.in-Ok.drafted c.in_ok-built-in-Ok.built draft c.in_ok-built-in-Ok.ensures.game)
    c.args.counting c.truth.result c.instances.result c.count_cut-cut.result c.len.result
    (subst (λ x. IsTruthIn x c.truth.result) kept c.truth.ensures.meaning)
    (c.instances.ensures ∙ ap (λ (x : TreeGame). length x.vertices.items) kept)
    (λ reached hold. c.count_cut-cut.ensures reached (subst (λ rs. Hold rs reached) (sym c.rows-in-Ok.ensures) hold))
    (c.len.ensures.value ∙ ap (λ (x : TreeGame). vertex_count x.game) kept)
    (omega (arith, c.len.ensures.value, ap (λ (x : TreeGame). vertex_count x.game) kept, c.in_ok-built-in-Ok.ensures.count, c.in-Ok.ensures.few))

pub returns-in-Err : goal.returns-in-Err
returns-in-Err g c =
    if_fault c.in-Err.error (λ _ large. too_large _ _ _ _ c.rows.ensures c.requires large) c.in-Err.ensures.too_many
