-- The answer of the module of a text is the text's.
use Rattle.pb_command_solver.specs.Answers.{IsAnswerOf}
use Rattle.pb_command_modules.specs.Refusals.{IsRefusedModule}
use Rattle.pb_command_modules.proofs.Deliveries.{nothing_written}
use Rattle.pb_command_modules.proofs.Reports.{reported, unreported}
use Rattle.pb_command_faults.proofs.HandedUp.{handed_up}
use Rattle.pb_command_texts.specs.Answers.{IsAnswer}
use Rattle.pb_command_texts.specs.Refusals.{IsRefused}
use Rattle.pb_command_texts.specs.Writes.{WritesTextReport}
use Rattle.pb_command_texts.proofs.Refusals.{module_of_text_refused}
use Rattle.pb_command_texts.proofs.Texts.{text_answer}
use Rattle.pb_command_texts.proofs.solve.solve_text.Goals as goal

pub returns-in_err-verified : goal.returns-in_err-verified
returns-in_err-verified g c =
    let counting = c.args.text.counting in
    let bytes = c.args.text.input.bytes.now in
    let made = c.from_residual.ensures.1 in
    let P = IsRefused counting bytes in
    unreported g.S.Sink _ (IsAnswer counting bytes) P c.args.writer.now c.args.writer.now c.from_residual.result made (
      (nothing_written g.S.Sink _ (WritesTextReport counting bytes) c.args.writer.now c.in_err-verified.field-0.0 c.from_residual.result made),
      (handed_up P P (λ f h. h) c.in_err-verified.field-0.0 c.from_residual.result c.in_err-verified.ensures.refused made),
    )

pub returns : goal.returns
returns g c =
    let counting = c.args.text.counting in
    let bytes = c.args.text.input.bytes.now in
    let m = c.in_ok-verified.verified in
    let of_text = c.in_ok-verified.ensures.«module» in
    reported g.S.Sink (IsAnswerOf counting m) (IsAnswer counting bytes) (text_answer counting bytes m of_text)
    (IsRefusedModule counting m) (IsRefused counting bytes) (module_of_text_refused counting bytes m of_text)
    c.args.writer.now c.write_report.new.writer c.write_report.result c.write_report.ensures
