-- Standard input is answered, or the error is what is wrong with it.
use Rattle.std.proofs.Common.{◌≡◌, ℕ, List, Option, [], Ok, Err, ap, refl, rules, subst, sym}
use Rattle.std.specs.Prelude.{IfOk, Result}
use Rattle.std.proofs.lemmas.Result.{err_from_is_err_and}
use Rattle.pb_report.proofs.Delivery.{left_nothing}
use Rattle.pb_command_faults.specs.Errors.{IfInputFault}
use Rattle.pb_command_faults.specs.declared.fault.ProgramFault.TheVariants as fault
use Rattle.pb_command_faults.specs.declared.solve_error.SolveError.{SolveError}
use Rattle.pb_command_line.specs.declared.request.Request.{Request}
use Rattle.pb_command_line.specs.declared.status.Status.{Status}
use Rattle.pb_command_models.specs.Writes.{WithStatus}
use Rattle.pb_command_models.proofs.Findings.{no_status}
use Rattle.pb_command_modules.proofs.Deliveries.{delivered, left, less_sent}
use Rattle.pbsolve.specs.declared.ended.Ended.{Ended}
use Rattle.pbsolve.specs.declared.run_error.RunError.{RunError}
use Rattle.pbsolve.specs.declared.run_error.RunError.TheVariants.{ProgramFault}
use Rattle.pbsolve.specs.Endings.{IsRefusedInput, WithEnd}
use Rattle.pbsolve.specs.Errors.{run_error_of_input, run_error_of_solving}
use Rattle.pbsolve.specs.Program.{LeavesReader, is_write_fault}
use Rattle.pbsolve.specs.Requests.{Answers, OfInput, RefusesBytes}
use Rattle.pbsolve.proofs.Answering.{answer_refused, by_property, handed, input_is_no_usage, input_leaves, input_refused, input_unwritten, left_up, solving_leaves}
use Rattle.pbsolve.proofs.program.answer_input.Given.{Over}
use Rattle.pbsolve.proofs.program.answer_input.Goals as goal
use Rattle.pbsolve.proofs.program.answer_input.Goals.{After-as_slice-bytes}

-- what answers standard input, with no line on standard error
abbrev AnswersInput : Request → Option (List ℕ) → Status → List ℕ → List ℕ → Type 0
AnswersInput request known end diagnostics text = OfInput request known (λ r bytes. Answers r bytes end text) × (diagnostics ≡ [])

module _ (g : Over) (c : After-as_slice-bytes g) where
  -- what holds of the request and of the bytes that were read
  of_input : (P : Request → List ℕ → Type 0) → P c.args.request.now c.as_slice-bytes.result.now → OfInput c.args.request.now (g.R.Source.left c.args.reader.now) P
  of_input P h = (c.in_ok-input.input.items, c.in_ok-input.ensures.input, subst (P c.args.request.now) c.as_slice-bytes.ensures.value h)

pub returns-in_err-input : goal.returns-in_err-input
returns-in_err-input g c =
    let r = c.from_residual.result in
    let failure = c.in_err-input.field-0.0 in
    let error = run_error_of_input failure in
    let made = c.from_residual.ensures.1 in
    let source = g.R.Source in
    let known = source.left c.args.reader.now in
    let is_made = err_from_is_err_and r made in
    record {
      written = left_nothing is_write_fault g.O.Sink (WithEnd r (AnswersInput c.args.request.now known)) c.args.out.now r error made (input_unwritten failure);
      read = search rules;
      unread = c.in_err-input.ensures.unread;
      refused = handed (IsRefusedInput c.args.request.now known) r error made
          (input_refused c.args.request.now known failure c.in_err-input.ensures.refused (λ same. c.in_err-input.ensures.too_long (ap Err same)));
      left = handed (λ e. LeavesReader e source c.args.reader.now c.input_for.new.reader) r error made
          (input_leaves source c.args.reader.now c.input_for.new.reader failure (λ same. c.in_err-input.ensures.failed (ap Err same)) c.in_err-input.ensures.err_failed);
      named = λ is. absurd (input_is_no_usage failure (cc (sym is_made.1, sym is_made.2, is)));
    }

pub returns-in_err-status : goal.returns-in_err-status
returns-in_err-status g c =
    let at = (goal.at.returns-in_err-status g c).After-as_slice-bytes in
    let request = c.args.request.now in
    let known = g.R.Source.left c.args.reader.now in
    let answer = WithStatus c.answer.result (Answers request c.as_slice-bytes.result.now) in
    let r = c.from_residual-in_err-status.result in
    let failure = c.in_err-status.field-0.0 in
    let error = run_error_of_solving failure in
    let made = c.from_residual-in_err-status.ensures.1 in
    let is_made = err_from_is_err_and r made in
    record {
      written = left_up g.O.Sink answer (WithEnd r (AnswersInput request known))
          (λ text h. (h.0, [], no_status (λ (e : Ended). (e.status ≡ h.0) × (e.diagnostics.items ≡ [])) _ r made, (of_input g at (λ q bytes. Answers q bytes h.0 text) h.2, refl)))
          c.args.out.now c.answer.new.out failure (left g.O.Sink answer c.args.out.now c.answer.new.out c.answer.result failure c.in_err-status.was c.answer.ensures.written) r made;
      read = search rules;
      unread = c.in_ok-input.ensures.unread;
      refused = handed (IsRefusedInput request known) r error made
          (answer_refused request known failure (of_input g at (λ q bytes. IfInputFault failure (RefusesBytes q bytes)) c.in_err-status.ensures.refused));
      left = handed (λ e. LeavesReader e g.R.Source c.args.reader.now c.input_for.new.reader) r error made
          (solving_leaves g.R.Source c.args.reader.now c.input_for.new.reader failure c.in_ok-input.ensures.read);
      named = λ is.
          let usage : error ≡ ProgramFault fault.U01 = cc (sym is_made.1, sym is_made.2, is) in
          by_property _ failure (λ same. c.in_err-status.ensures.named (ap Err same)) usage;
    }

pub returns : goal.returns
returns g c =
    let at = (goal.at.returns g c).After-as_slice-bytes in
    let request = c.args.request.now in
    let known = g.R.Source.left c.args.reader.now in
    let answer = WithStatus c.answer.result (Answers request c.as_slice-bytes.result.now) in
    let status = c.in_ok-status.status in
    record {
      written = less_sent g.O.Sink answer (WithEnd {E = RunError} (Ok (record { status = status; diagnostics = c.new-diagnostics.result })) (AnswersInput request known))
          (λ text h. (
            h.0,
            [],
            (subst (λ (r : Result Status SolveError). IfOk r (λ (s : Status). s ≡ h.0)) c.in_ok-status.was h.1, c.new-diagnostics.ensures.items),
            (of_input g at (λ q bytes. Answers q bytes h.0 text) h.2, refl),
          )) c.args.out.now c.answer.new.out
          (delivered g.O.Sink answer c.args.out.now c.answer.new.out c.answer.result status c.in_ok-status.was c.answer.ensures.written);
      read = c.in_ok-input.ensures.read;
      unread = c.in_ok-input.ensures.unread;
      refused = tt;
      left = tt;
      named = λ is. absurd (cc is);
    }
