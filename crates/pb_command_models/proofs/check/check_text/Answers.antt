-- What is told is written.
use Rattle.std.proofs.Common.{◌≡◌, ◌∙◌, ℕ, List, Result, Ok, Err, IsErrAnd, refl, sym, subst}
use Rattle.pb_command_faults.specs.Errors.{IfInputFault, IfInputRefused}
use Rattle.pb_command_faults.specs.declared.solve_error.SolveError.{SolveError}
use Rattle.pb_command_faults.specs.declared.solve_error.SolveError.TheVariants as solve_error
use Rattle.pb_command_faults.specs.declared.solve_fault.SolveFault.{SolveFault}
use Rattle.pb_command_faults.proofs.HandedUp.{handed_up}
use Rattle.pb_command_modules.proofs.Deliveries.{less_left_on, less_sent, nothing_written}
use Rattle.pb_command_line.specs.declared.status.Status.{Status}
use Rattle.pb_command_models.specs.Models.{IsUnchecked}
use Rattle.pb_command_models.specs.Writes.{WithStatus, WritesVerdicts}
use Rattle.pb_command_models.proofs.Checked.{lacked_names}
use Rattle.pb_command_models.proofs.Findings.{no_status}
use Rattle.pb_command_models.proofs.check.check_text.Goals as goal

pub returns-in_err-report-clause-verdicts : goal.returns-in_err-report-clause-verdicts
returns-in_err-report-clause-verdicts g c = (
  (nothing_written g.S.Sink _ (WithStatus c.from_residual.result (WritesVerdicts c.args.options.now c.args.input.bytes.now)) c.args.writer.now
      c.in_err-report.field-0.0 c.from_residual.result c.from_residual.ensures.1),
  (let P = IsUnchecked c.args.options.now c.args.input.bytes.now in
      handed_up P P (λ f h. h) c.in_err-report.field-0.0 c.from_residual.result c.in_err-report.ensures.refused c.from_residual.ensures.1),
)

pub returns-in_err-report-clause-named : goal.returns-in_err-report-clause-named
returns-in_err-report-clause-named g c =
    lacked_names c.args.options.now c.args.input.bytes.now c.from_residual.result (returns-in_err-report-clause-verdicts g c).1

-- a failed write says nothing of the model
written_up : {T : Type 0} (P : SolveFault → Type 0) (r : Result T SolveError) (e : SolveError) → IsErrAnd r (λ x. x ≡ e) → e ≡ solve_error.Write (record {})
    → IfInputRefused r P
written_up P (Ok x) e made is = tt
written_up P (Err x) e made is = subst (λ (y : SolveError). IfInputFault y P) (sym (made ∙ is)) tt

pub returns-in_err-deliver-clause-verdicts : goal.returns-in_err-deliver-clause-verdicts
returns-in_err-deliver-clause-verdicts g c = (
  (let verdicts = WritesVerdicts c.args.options.now c.args.input.bytes.now in
      let report = c.in_ok-report.report in
      let r = c.from_residual-in_err-deliver.result in
      less_left_on g.S.Sink (λ (t : List ℕ). t ≡ c.as_bytes.result.now) (WithStatus r verdicts)
      (λ text is. (
        report.status,
        no_status (λ (s : Status). s ≡ report.status) _ r c.from_residual-in_err-deliver.ensures.1,
        subst (verdicts report.status) (sym (is ∙ c.as_bytes.ensures.value)) c.in_ok-report.ensures.report,
      )) c.args.writer.now c.deliver.new.writer r c.in_err-deliver.field-0.0 c.from_residual-in_err-deliver.ensures.1 c.in_err-deliver.ensures.text),
  (written_up (IsUnchecked c.args.options.now c.args.input.bytes.now) c.from_residual-in_err-deliver.result
      c.in_err-deliver.field-0.0 c.from_residual-in_err-deliver.ensures.1 c.in_err-deliver.ensures.failed),
)

pub returns-clause-verdicts : goal.returns-clause-verdicts
returns-clause-verdicts g c = (
  (let verdicts = WritesVerdicts c.args.options.now c.args.input.bytes.now in
      let report = c.in_ok-report.report in
      let Verdicts : List ℕ → Type 0 = λ t. (status : Status) × (report.status ≡ status) × verdicts status t in
      less_sent g.S.Sink (λ (t : List ℕ). t ≡ c.as_bytes.result.now) Verdicts
      (λ text is. (report.status, refl, subst (verdicts report.status) (sym (is ∙ c.as_bytes.ensures.value)) c.in_ok-report.ensures.report))
      c.args.writer.now c.deliver.new.writer c.in_ok-deliver.ensures.text),
  (tt),
)
