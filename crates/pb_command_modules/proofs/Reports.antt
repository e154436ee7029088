-- What a call that answers and writes the report of its answer leaves, by how it ends.
use Rattle.std.proofs.Common.{Result, Ok, Err, IsErrAnd}
use Rattle.std.proofs.lemmas.Result.{IfOk-weaker}
use Rattle.pb_sorts.specs.declared.sink.Sink.{Ghosts}
use Rattle.pb_report.specs.declared.answer.Answer.{Answer}
use Rattle.pb_command_faults.specs.declared.solve_error.SolveError.{SolveError}
use Rattle.pb_command_faults.specs.declared.solve_fault.SolveFault.{SolveFault}
use Rattle.pb_command_faults.proofs.HandedUp.{if_input_refused}
use Rattle.pb_command_modules.specs.Delivery.{DeliversOrRefuses, IsReportOf, ReportsOrRefuses}
use Rattle.pb_command_modules.proofs.Deliveries.{less_delivered}

module _ {S : Type 0} (sink : Ghosts S) where
  -- where `?` hands an error up, no answer is returned
  pub unreported : (P : SolveError → Type 0) (IsAnswer : Answer → Type 0) (IsRefused : SolveFault → Type 0) (old new : S) (r : Result Answer SolveError)
      → IsErrAnd r P → DeliversOrRefuses (IsReportOf IsAnswer) IsRefused r sink old new → ReportsOrRefuses IsAnswer IsRefused r sink old new
  unreported P IsAnswer IsRefused old new (Ok a) made h = absurd made
  unreported P IsAnswer IsRefused old new (Err e) made h = record { answer = tt; report = tt; written = h }

  -- an answer of which more is known, and a fault that says more
  pub reported : (A B : Answer → Type 0) → ((a : Answer) → A a → B a) → (P Q : SolveFault → Type 0) → ((f : SolveFault) → P f → Q f)
      → (old new : S) (r : Result Answer SolveError) → ReportsOrRefuses A P r sink old new → ReportsOrRefuses B Q r sink old new
  reported A B more P Q refused old new r h = record {
    answer = IfOk-weaker r A B more h.answer;
    report = h.report;
    written = (
      less_delivered sink (IsReportOf A) (IsReportOf B) (λ text is. (is.0, more is.0 is.1, is.2)) old new r h.written.0,
      if_input_refused P Q refused r h.written.1,
    );
  }
