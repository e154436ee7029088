use Rattle.pb_command_solver.proofs.Rows.{module_rows}
use Rattle.pb_report.specs.ModuleTexts.{module_solution_text, IsTextOfTrees}
use Rattle.pb_command_modules.proofs.Texts.{text_of_reached}
use Rattle.pb_command_modules.proofs.Deliveries.{nothing_written, sent_up, sent_whole}
use Rattle.pb_command_faults.proofs.HandedUp.{failed_up}
use Rattle.pb_command_modules.proofs.Refusals.{too_large_up}
use Rattle.pb_command_modules.specs.Refusals.{IsRefusedModule}
use Rattle.pb_command_modules.specs.Writes.{WritesSolution}
use Rattle.pb_command_modules.proofs.module.write_solution.Goals as goal

pub solution_text-requires-clause-rows : goal.solution_text-requires-clause-rows
solution_text-requires-clause-rows g c = module_rows _ _ _ c.rows-reached.ensures c.in_ok-module.ensures.explored

pub returns-in_err-module : goal.returns-in_err-module
returns-in_err-module g c = (
  (nothing_written g.S.Sink _ (WritesSolution c.args.verified.now) c.args.writer.now c.in_err-module.field-0.0 c.from_residual.result c.from_residual.ensures.1),
  (too_large_up c.args.counting c.args.verified.now c.in_err-module.field-0.0 c.from_residual.result c.in_err-module.ensures c.from_residual.ensures.1),
)

pub returns-in_err-solution_text : goal.returns-in_err-solution_text
returns-in_err-solution_text g c = (
  (let m = c.args.verified.now in
      sent_up g.S.Sink (IsTextOfTrees m (λ trees. module_solution_text m trees c.rows-reached.result.now)) (WritesSolution m)
      (text_of_reached m c.in_ok-module.«module».explored c.rows-reached.result.now c.rows-reached.ensures c.in_ok-module.ensures.explored (module_solution_text m))
      c.args.writer.now c.solution_text.new.sink
      c.solution_text.result c.in_err-solution_text.field-0.0 c.from_residual-in_err-solution_text.result c.solution_text.ensures
      c.in_err-solution_text.was c.from_residual-in_err-solution_text.ensures.1),
  (failed_up (IsRefusedModule c.args.counting c.args.verified.now) c.in_err-solution_text.field-0.0 c.from_residual-in_err-solution_text.result c.from_residual-in_err-solution_text.ensures.1),
)

pub returns : goal.returns
returns g c = (
  (let m = c.args.verified.now in
      sent_whole g.S.Sink (IsTextOfTrees m (λ trees. module_solution_text m trees c.rows-reached.result.now)) (WritesSolution m)
      (text_of_reached m c.in_ok-module.«module».explored c.rows-reached.result.now c.rows-reached.ensures c.in_ok-module.ensures.explored (module_solution_text m))
      c.args.writer.now c.solution_text.new.sink
      c.solution_text.result c.in_ok-solution_text.field-0 c.solution_text.ensures c.in_ok-solution_text.was),
  (tt),
)
