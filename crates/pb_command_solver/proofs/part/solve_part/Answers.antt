use Rattle.std.proofs.Common.{inl, inr, map, sym, subst}
use Rattle.pb_bytecode.specs.Meaning.{signature_of, initial_of}
use Rattle.pb_game_of_trees.specs.declared.tree_game.TreeGame.{TreeGame}
use Rattle.pb_game_of_trees.specs.TreeGame.{KeepsVertexLimit, IsGameOf}
use Rattle.pb_command_solver.specs.Parts.{IsTruthIn}
use Rattle.pb_command_solver.proofs.Parts.{some_rows, same_of}
use Rattle.pb_command_solver.proofs.part.solve_part.Goals as goal
use Rattle.pb_command_solver.proofs.part.solve_part.Goals.{else-truth-part-via-then-truth-part+else-not-part, else-truth-part-via-else-truth-part}

pub build_rows-requires-after_bounds : goal.build_rows-requires-after_bounds
build_rows-requires-after_bounds g c κs within =
    some_rows c.args.verified.now c.args.part.rows c.instances_have_trees.ensures c.args.part.truth c.requires.assumed

pub returns-clause-enough : goal.returns-clause-enough
returns-clause-enough g c =
    let m = c.args.verified.now in
    let part = c.args.part in
    let solved = c.in_ok-solved.solved in
    record {
      trees = c.instances_have_trees.ensures;
      part = c.requires;
      game = subst (λ (b : TreeGame). IsGameOf (map signature_of m.equations) part.rows (initial_of m) b) (sym c.in_ok-solved.ensures.built) c.in-Ok.ensures.game;
      enough = elim c.else-truth-part.branch [
        | else-truth-part-via-then-truth-part+else-not-part w ↦ inl w.if-not-part.false
        | else-truth-part-via-else-truth-part w ↦ inr (subst (IsTruthIn solved.built) (same_of c.truth.result part.truth w.if-truth-part.false) c.truth.ensures.meaning)
      ];
    }

pub returns-clause-few : goal.returns-clause-few
returns-clause-few g c = subst (KeepsVertexLimit c.args.counting) (sym c.in_ok-solved.ensures.built) c.in-Ok.ensures.few
