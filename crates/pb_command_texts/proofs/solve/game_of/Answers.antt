use Rattle.pb_command_modules.specs.Writes.{WritesGame}
use Rattle.pb_command_texts.specs.Writes.{WritesOfModule}
use Rattle.pb_command_modules.proofs.Deliveries.{less_delivered, nothing_written}
use Rattle.pb_command_texts.proofs.Refusals.{module_of_text_refused}
use Rattle.pb_command_faults.proofs.HandedUp.{handed_up, if_input_refused}
use Rattle.pb_command_texts.specs.Refusals.{IsRefused}
use Rattle.pb_command_modules.specs.Refusals.{IsRefusedModule}
use Rattle.pb_command_texts.proofs.solve.game_of.Goals as goal

pub returns-in_err-verified : goal.returns-in_err-verified
returns-in_err-verified g c = (
  (nothing_written g.S.Sink _ (WritesOfModule c.args.text.counting WritesGame c.args.text.input.bytes.now) c.args.writer.now
      c.in_err-verified.field-0.0 c.from_residual.result c.from_residual.ensures.1),
  (let P = IsRefused c.args.text.counting c.args.text.input.bytes.now in
      handed_up P P (λ f h. h) c.in_err-verified.field-0.0 c.from_residual.result c.in_err-verified.ensures.refused c.from_residual.ensures.1),
)

pub returns : goal.returns
returns g c = (
  (let m = c.in_ok-verified.verified in
      less_delivered g.S.Sink (WritesGame m) (WritesOfModule c.args.text.counting WritesGame c.args.text.input.bytes.now)
      (λ text h. (m, c.in_ok-verified.ensures.«module», h)) c.args.writer.now c.write_game.new.writer c.write_game.result c.write_game.ensures.0),
  (if_input_refused (IsRefusedModule c.args.text.counting c.in_ok-verified.verified) (IsRefused c.args.text.counting c.args.text.input.bytes.now)
      (module_of_text_refused c.args.text.counting c.args.text.input.bytes.now c.in_ok-verified.verified c.in_ok-verified.ensures.«module»)
      c.write_game.result c.write_game.ensures.1),
)
