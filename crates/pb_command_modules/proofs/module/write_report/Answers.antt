use Rattle.std.proofs.Common.{◌≡◌, ℕ, List, subst}
use Rattle.std.specs.Io.KnownBytes.{Appends}
use Rattle.pb_report.specs.Report.{report_text}
use Rattle.pb_command_modules.proofs.Deliveries.{nothing_written, sent_up, sent_whole}
use Rattle.pb_command_modules.proofs.Reports.{unreported}
use Rattle.pb_command_faults.proofs.HandedUp.{failed_up}
use Rattle.pb_command_modules.proofs.Refusals.{too_large_up}
use Rattle.pb_command_solver.specs.Answers.{IsAnswerOf}
use Rattle.pb_command_modules.specs.Refusals.{IsRefusedModule}
use Rattle.pb_command_modules.specs.Writes.{WritesReport}
use Rattle.pb_command_modules.proofs.module.write_report.Goals as goal

pub returns-in_err-answer : goal.returns-in_err-answer
returns-in_err-answer g c =
    let m = c.args.verified.now in
    let made = c.from_residual.ensures.1 in
    unreported g.S.Sink _ (IsAnswerOf c.args.counting m) (IsRefusedModule c.args.counting m) c.args.writer.now c.args.writer.now c.from_residual.result made (
      (nothing_written g.S.Sink _ (WritesReport c.args.counting m) c.args.writer.now c.in_err-answer.field-0.0 c.from_residual.result made),
      (too_large_up c.args.counting m c.in_err-answer.field-0.0 c.from_residual.result c.in_err-answer.ensures made),
    )

pub returns-in_err-report : goal.returns-in_err-report
returns-in_err-report g c =
    let m = c.args.verified.now in
    let answer = c.in_ok-answer.answer in
    let made = c.from_residual-in_err-report.ensures.1 in
    unreported g.S.Sink _ (IsAnswerOf c.args.counting m) (IsRefusedModule c.args.counting m) c.args.writer.now c.report.new.sink c.from_residual-in_err-report.result made (
      (sent_up g.S.Sink (λ (t : List ℕ). t ≡ report_text answer) (WritesReport c.args.counting m) (λ text is. (answer, c.in_ok-answer.ensures, is))
          c.args.writer.now c.report.new.sink c.report.result c.in_err-report.field-0.0 c.from_residual-in_err-report.result
          c.report.ensures c.in_err-report.was made),
      (failed_up (IsRefusedModule c.args.counting m) c.in_err-report.field-0.0 c.from_residual-in_err-report.result made),
    )

pub returns : goal.returns
returns g c =
    let answer = c.in_ok-answer.answer in
    let IsReport : List ℕ → Type 0 = λ t. t ≡ report_text answer in
    let whole = sent_whole g.S.Sink IsReport IsReport (λ text is. is) c.args.writer.now c.report.new.sink c.report.result c.in_ok-report.field-0 c.report.ensures c.in_ok-report.was in
    record {
      answer = c.in_ok-answer.ensures;
      report = subst (Appends (g.S.Sink.taken c.args.writer.now) (g.S.Sink.taken c.report.new.sink)) whole.0.1 whole.0.2;
      written = (((whole.0.0, (answer, c.in_ok-answer.ensures, whole.0.1), whole.0.2), whole.1), tt);
    }
