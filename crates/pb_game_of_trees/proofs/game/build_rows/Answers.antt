use Rattle.std.proofs.Common.{subst}
use Rattle.pb_game_of_trees.specs.TreeGame.{IsRefusedExactly}
use Rattle.pb_game_of_trees.proofs.Refused.{too_large}
use Rattle.pb_game_of_trees.proofs.game.build_rows.Goals as goal

pub build-requires-after_bounds : goal.build-requires-after_bounds
build-requires-after_bounds g c κs within = rw (c.in_ok-signatures.ensures, c.initial.ensures.number) c.requires

pub returns-clause-too_many : goal.returns-clause-too_many
returns-clause-too_many g c =
    too_large _ _ _ c.build.result
    (subst (λ s. IsRefusedExactly c.args.counting c.build.result s c.args.rows.now) c.in_ok-signatures.ensures c.build.ensures.too_many)
