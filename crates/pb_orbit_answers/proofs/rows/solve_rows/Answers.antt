use Rattle.std.proofs.Common.{List, map, subst, sym}
use Rattle.pb_fixpoint_trees.specs.Equations.{Signature}
use Rattle.pb_fixpoint_trees.specs.Reached.{rows_of}
use Rattle.pb_bytecode.specs.Meaning.{signature_of}
use Rattle.pb_game_of_trees.specs.TreeGame.{IsGameOf, IsTreeGame}
use Rattle.pb_game_of_trees.specs.declared.tree_game.TreeGame.{TreeGame}
use Rattle.pb_game_of_trees.proofs.Reached.{found_row}
use Rattle.pb_orbit_answers.proofs.rows.solve_rows.Goals as goal

pub build-requires-after_bounds : goal.build-requires-after_bounds
build-requires-after_bounds g c κs within = rw c.in_ok-signatures.ensures c.requires

pub returns-in-Ok-certify-clause-truth : goal.returns-in-Ok-certify-clause-truth
returns-in-Ok-certify-clause-truth g c = λ trees from.
    let signatures : List Signature = map signature_of c.args.verified.now.equations in
    let rows = c.args.rows in
    let initial = c.args.initial in
    let game = subst (λ (s : List Signature). IsGameOf s rows initial c.in-Ok.built) c.in_ok-signatures.ensures c.in-Ok.ensures.game in
    c.truth.ensures.meaning signatures trees (rows_of trees rows) initial
    (subst (λ (b : TreeGame). IsTreeGame signatures trees (rows_of trees rows) initial b) (sym c.new.ensures.built) (game trees from))
    (found_row trees rows initial from.found)
