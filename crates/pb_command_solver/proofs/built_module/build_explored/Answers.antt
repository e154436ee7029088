use Rattle.pb_base.proofs.Faults.{if_fault}
use Rattle.pb_command_solver.proofs.Rows.{module_rows, too_large}
use Rattle.pb_command_solver.proofs.built_module.build_explored.Goals as goal

pub build-requires-clause-rows : goal.build-requires-clause-rows
build-requires-clause-rows g c = λ κs within. module_rows _ _ _ c.rows.ensures c.requires

pub returns-in-Err : goal.returns-in-Err
returns-in-Err g c =
    if_fault c.in-Err.error (λ _ large. too_large _ _ _ _ c.rows.ensures c.requires large) c.in-Err.ensures.too_many
