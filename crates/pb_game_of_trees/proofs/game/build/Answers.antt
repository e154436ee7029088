use Rattle.std.proofs.lemmas.Result.{IfOk-weaker}
use Rattle.pb_base.proofs.Faults.{if_refused}
use Rattle.pb_game_of_trees.proofs.game.build.Goals as goal

pub build_rows-requires-after_bounds : goal.build_rows-requires-after_bounds
build_rows-requires-after_bounds g c κs within = (c.requires.trees.0, c.requires.rows c.requires.trees.0 c.requires.trees.1)

pub returns-clause-game : goal.returns-clause-game
returns-clause-game g c = IfOk-weaker c.build_rows.result _ _ (λ built is trees have. is trees (c.requires.rows trees have)) c.build_rows.ensures.game

pub returns-clause-too_many : goal.returns-clause-too_many
returns-clause-too_many g c =
    if_refused c.build_rows.result
    (λ _ large trees have. large trees (c.requires.rows trees have).are)
    c.build_rows.ensures.too_many
