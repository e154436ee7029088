use Rattle.std.proofs.Common.{sym, subst}
use Rattle.pb_game_of_trees.specs.Explored.{IsModuleGame}
use Rattle.pb_command_solver.proofs.Rows.{module_rows}
use Rattle.pb_command_solver.proofs.explanation.explain_module.Goals as goal

pub evidence_of-requires : goal.evidence_of-requires
evidence_of-requires g c = (
  c.args.verified.now,
  c.in-Ok.ensures.trees,
  module_rows _ _ _ c.rows.ensures c.in-Ok.ensures.explored,
  subst (λ r. IsModuleGame c.args.verified.now r c.in-Ok.module.solved.built) (sym c.rows.ensures) c.in-Ok.ensures.game,
)

pub returns-in_ok-evidence_of-in-Ok : goal.returns-in_ok-evidence_of-in-Ok
returns-in_ok-evidence_of-in-Ok g c =
    c.in_ok-evidence_of-in-Ok.ensures c.args.verified.now (module_rows _ _ _ c.rows.ensures c.in-Ok.ensures.explored)
    (subst (λ r. IsModuleGame c.args.verified.now r c.in-Ok.module.solved.built) (sym c.rows.ensures) c.in-Ok.ensures.game)
