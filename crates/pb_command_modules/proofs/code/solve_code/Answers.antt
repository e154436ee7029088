use Rattle.pb_command_solver.specs.Answers.{IsAnswerOf}
use Rattle.pb_command_modules.specs.Answers.{IsAnswerOfCode}
use Rattle.pb_command_modules.specs.Writes.{WritesAnswer}
use Rattle.pb_command_modules.specs.Refusals.{IsRefusedBytes, IsRefusedModule, IsUnverified}
use Rattle.pb_command_modules.proofs.Deliveries.{nothing_written}
use Rattle.pb_command_modules.proofs.Reports.{reported, unreported}
use Rattle.pb_command_faults.proofs.HandedUp.{handed_up}
use Rattle.pb_command_modules.proofs.Refusals.{module_of_code_refused, unverified}
use Rattle.pb_command_modules.proofs.code.solve_code.Goals as goal

pub returns-in_err-verified : goal.returns-in_err-verified
returns-in_err-verified g c =
    let counting = c.args.counting in
    let bytes = c.args.bytes.now in
    let made = c.from_residual.ensures.1 in
    unreported g.S.Sink _ (IsAnswerOfCode counting bytes) (IsRefusedBytes counting bytes) c.args.writer.now c.args.writer.now c.from_residual.result made (
      (nothing_written g.S.Sink _ (WritesAnswer counting bytes) c.args.writer.now c.in_err-verified.field-0.0 c.from_residual.result made),
      (handed_up (IsUnverified counting bytes) (IsRefusedBytes counting bytes) (unverified counting bytes) c.in_err-verified.field-0.0 c.from_residual.result c.in_err-verified.ensures.refused made),
    )

pub returns : goal.returns
returns g c =
    let counting = c.args.counting in
    let bytes = c.args.bytes.now in
    let m = c.in_ok-verified.verified in
    let of_code = c.in_ok-verified.ensures.«module» in
    reported g.S.Sink (IsAnswerOf counting m) (IsAnswerOfCode counting bytes) (λ answer is. record { contents = m; of_code = of_code; answered = is })
    (IsRefusedModule counting m) (IsRefusedBytes counting bytes) (module_of_code_refused counting bytes m of_code)
    c.args.writer.now c.write_report.new.writer c.write_report.result c.write_report.ensures
