-- The lines of all files go out at once.
use Rattle.std.proofs.Common.{◌≡◌, ◌⊎◌, ◌∙◌, ℕ, List, Ok, ap, inl, inr, refl, rules, subst, sym}
use Rattle.pb_command_faults.specs.declared.fault.ProgramFault.TheVariants.{E02, M01}
use Rattle.pb_command_faults.specs.declared.solve_error.SolveError.{SolveError}
use Rattle.pb_command_faults.specs.declared.solve_error.SolveError.TheVariants.{Write}
use Rattle.pb_command_models.proofs.Findings.{no_status}
use Rattle.pb_report.proofs.Delivery.{left_nothing}
use Rattle.pb_command_modules.proofs.Deliveries.{less_sent}
use Rattle.pbsolve.specs.declared.ended.Ended.{Ended}
use Rattle.pbsolve.specs.declared.run_error.RunError.{RunError}
use Rattle.pbsolve.specs.declared.run_error.RunError.TheVariants.{ProgramFault}
use Rattle.pbsolve.specs.Endings.{WithEnd}
use Rattle.pbsolve.specs.Errors.{run_error_of_memory, run_error_of_solving}
use Rattle.pbsolve.specs.Files.{AnswersFiles, known_files}
use Rattle.pbsolve.specs.Program.{is_write_fault}
use Rattle.pbsolve.proofs.Answering.{handed, left_up}
use Rattle.pbsolve.proofs.files.answer_files.Goals as goal

pub returns-in_err-report : goal.returns-in_err-report
returns-in_err-report g c =
    let r = c.from_residual.result in
    let made = c.from_residual.ensures.1 in
    let known = known_files g.F.NamedFiles c.args.files.now c.report_on.new.files in
    record {
      written = left_nothing is_write_fault g.O.Sink (WithEnd r (AnswersFiles c.args.request.now known)) c.args.out.now r run_error_of_memory made refl;
      left = search rules;
      errors = handed (λ e. (e ≡ ProgramFault M01) ⊎ (e ≡ ProgramFault E02)) r run_error_of_memory made (inl refl);
    }

-- the only error of a delivery is a failed write
write_error : (e : SolveError) → e ≡ Write (record {}) → run_error_of_solving e ≡ ProgramFault E02
write_error e is = ap run_error_of_solving is

pub returns-in_err-deliver : goal.returns-in_err-deliver
returns-in_err-deliver g c =
    let r = c.from_residual-in_err-deliver.result in
    let failure = c.in_err-deliver.field-0.0 in
    let error = run_error_of_solving failure in
    let made = c.from_residual-in_err-deliver.ensures.1 in
    let report = c.in_ok-report.report in
    let known = known_files g.F.NamedFiles c.args.files.now c.report_on.new.files in
    record {
      written = left_up g.O.Sink (λ (t : List ℕ). t ≡ c.as_slice.result.now) (WithEnd r (AnswersFiles c.args.request.now known))
          (λ text is. (
            report.status,
            report.diagnostics.items,
            no_status (λ (e : Ended). (e.status ≡ report.status) × (e.diagnostics.items ≡ report.diagnostics.items)) _ r made,
            subst (λ (t : List ℕ). AnswersFiles c.args.request.now known report.status report.diagnostics.items t)
                (sym (is ∙ c.as_slice.ensures.value)) c.in_ok-report.ensures.answers,
          )) c.args.out.now c.deliver.new.writer failure c.in_err-deliver.ensures.text r made;
      left = search rules;
      errors = handed (λ e. (e ≡ ProgramFault M01) ⊎ (e ≡ ProgramFault E02)) r error made (inr (write_error failure c.in_err-deliver.ensures.failed));
    }

pub returns : goal.returns
returns g c =
    let report = c.in_ok-report.report in
    let known = known_files g.F.NamedFiles c.args.files.now c.report_on.new.files in
    record {
      written = less_sent g.O.Sink (λ (t : List ℕ). t ≡ c.as_slice.result.now)
          (WithEnd {E = RunError} (Ok (record { status = report.status; diagnostics = report.diagnostics })) (AnswersFiles c.args.request.now known))
          (λ text is. (
            report.status,
            report.diagnostics.items,
            (refl, refl),
            subst (λ (t : List ℕ). AnswersFiles c.args.request.now known report.status report.diagnostics.items t)
                (sym (is ∙ c.as_slice.ensures.value)) c.in_ok-report.ensures.answers,
          ))
          c.args.out.now c.deliver.new.writer c.in_ok-deliver.ensures.text;
      left = c.in_ok-report.ensures.left;
      errors = tt;
    }
