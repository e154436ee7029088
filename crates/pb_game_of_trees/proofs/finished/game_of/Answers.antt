use Rattle.std.proofs.lemmas.Result.{IfOk-weaker}
use Rattle.pb_game_of_trees.proofs.PartsOf.{parts_are_game, has_vertices}
use Rattle.pb_game_of_trees.proofs.finished.game_of.Goals as goal

pub of_parts-requires : goal.of_parts-requires
of_parts-requires c = parts_are_game c.requires.0 c.requires.2 c.args.parts c.requires.1

pub returns : goal.returns
returns c = IfOk-weaker c.of_parts.result _ _ (λ game h vertices are. has_vertices vertices c.args.parts game are h) c.of_parts.ensures.game
