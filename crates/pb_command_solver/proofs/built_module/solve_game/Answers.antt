use Rattle.std.proofs.Common.{sym, subst}
use Rattle.pb_game_of_trees.specs.declared.tree_game.TreeGame.{TreeGame}
use Rattle.pb_command_solver.specs.Solving.{IsSolutionBy}
use Rattle.pb_command_solver.proofs.built_module.solve_game.Goals as goal

pub returns : goal.returns
returns g c =
    let found = subst (IsSolutionBy c.args.options.solver c.args.built.game) (sym c.new.ensures.certified) c.in_ok-certified.ensures in
    record {
      built = c.new.ensures.built;
      winners = subst (λ (b : TreeGame). IsSolutionBy c.args.options.solver b.game c.new.result.certified) (sym c.new.ensures.built) found;
    }
