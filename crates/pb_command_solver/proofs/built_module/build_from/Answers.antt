use Rattle.std.proofs.Common.{List, Option, IfSome, sym, subst}
use Rattle.pb_fixpoint_trees.specs.Row.{TokenRow}
use Rattle.pb_exploration_reached.specs.Rows.{AreExploredRows}
use Rattle.pb_command_solver.proofs.built_module.build_from.Goals as goal

pub build_explored-requires-after_bounds : goal.build_explored-requires-after_bounds
build_explored-requires-after_bounds g c κs within =
    let m = c.args.verified.now in
    subst (AreExploredRows m) (sym c.of_rows.ensures)
    (subst (λ (found : Option (List TokenRow)). IfSome found (AreExploredRows m)) c.in-Some.is c.in_ok-rows.ensures.rows)
