use Rattle.std.proofs.Common.{arith}
use Rattle.std.proofs.lemmas.Result.{err_from_is_err_and}
use Rattle.pb_game_of_trees.proofs.Refused.{refused_as_drafted, not_refused_after, not_for_memory_after}
use Rattle.pb_game_of_trees.proofs.tree_game.TreeGame.build.Goals as goal

pub finish-requires : goal.finish-requires
finish-requires g c = (_, _, _, _, c.in_ok-drafted.ensures.draft c.requires.0 c.requires.1)

pub returns-clause-game : goal.returns-clause-game
returns-clause-game g c = λ trees from. c.in_ok-built.ensures.game _ _ _ _ (c.in_ok-drafted.ensures.draft trees from)

pub returns-clause-few : goal.returns-clause-few
returns-clause-few g c = omega (arith, c.in_ok-built.ensures.count, c.in_ok-drafted.ensures.few)

-- ---- the error

pub returns-in_err-drafted-clause-too_many : goal.returns-in_err-drafted-clause-too_many
returns-in_err-drafted-clause-too_many g c =
    let h = err_from_is_err_and c.from_residual.result c.from_residual.ensures.1 in
    refused_as_drafted c.args.counting c.in_err-drafted.was h.1 (let same = h.2 in cc) c.of_rows.ensures.too_many

pub returns-in_err-built-clause-too_many : goal.returns-in_err-built-clause-too_many
returns-in_err-built-clause-too_many g c =
    not_for_memory_after c.args.counting c.from_residual-in_err-built.result c.in_ok-drafted.was c.from_residual-in_err-built.ensures.1 c.of_rows.ensures.too_many

pub returns-clause-too_many : goal.returns-clause-too_many
returns-clause-too_many g c = not_refused_after c.args.counting c.in_ok-drafted.was (λ e. cc) c.of_rows.ensures.too_many
