use Rattle.pb_command_solver.proofs.Rows.{module_rows}
use Rattle.pb_report.specs.ModuleTexts.{module_game_text, IsTextOfTrees}
use Rattle.pb_command_modules.proofs.Texts.{text_of_reached}
use Rattle.pb_command_modules.proofs.Deliveries.{nothing_written, sent_up, sent_whole}
use Rattle.pb_command_faults.proofs.HandedUp.{failed_up}
use Rattle.pb_command_modules.proofs.Refusals.{too_large_up}
use Rattle.pb_command_modules.specs.Refusals.{IsRefusedModule}
use Rattle.pb_command_modules.specs.Writes.{WritesGame}
use Rattle.pb_command_modules.proofs.module.write_game.Goals as goal

pub game_text-requires-clause-rows : goal.game_text-requires-clause-rows
game_text-requires-clause-rows g c = module_rows _ _ _ c.rows-reached.ensures c.in_ok-module.ensures.explored

pub returns-in_err-module : goal.returns-in_err-module
returns-in_err-module g c = (
  (nothing_written g.S.Sink _ (WritesGame c.args.verified.now) c.args.writer.now c.in_err-module.field-0.0 c.from_residual.result c.from_residual.ensures.1),
  (too_large_up c.args.counting c.args.verified.now c.in_err-module.field-0.0 c.from_residual.result c.in_err-module.ensures c.from_residual.ensures.1),
)

pub returns-in_err-game_text : goal.returns-in_err-game_text
returns-in_err-game_text g c = (
  (let m = c.args.verified.now in
      sent_up g.S.Sink (IsTextOfTrees m (λ trees. module_game_text m trees c.rows-reached.result.now)) (WritesGame m)
      (text_of_reached m c.in_ok-module.«module».explored c.rows-reached.result.now c.rows-reached.ensures c.in_ok-module.ensures.explored (module_game_text m))
      c.args.writer.now c.game_text.new.sink
      c.game_text.result c.in_err-game_text.field-0.0 c.from_residual-in_err-game_text.result c.game_text.ensures c.in_err-game_text.was c.from_residual-in_err-game_text.ensures.1),
  (failed_up (IsRefusedModule c.args.counting c.args.verified.now) c.in_err-game_text.field-0.0 c.from_residual-in_err-game_text.result c.from_residual-in_err-game_text.ensures.1),
)

pub returns : goal.returns
returns g c = (
  (let m = c.args.verified.now in
      sent_whole g.S.Sink (IsTextOfTrees m (λ trees. module_game_text m trees c.rows-reached.result.now)) (WritesGame m)
      (text_of_reached m c.in_ok-module.«module».explored c.rows-reached.result.now c.rows-reached.ensures c.in_ok-module.ensures.explored (module_game_text m))
      c.args.writer.now c.game_text.new.sink
      c.game_text.result c.in_ok-game_text.field-0 c.game_text.ensures c.in_ok-game_text.was),
  (tt),
)
