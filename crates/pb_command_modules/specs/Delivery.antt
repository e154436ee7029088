-- How a text comes to the sink of a call of the program.
use Rattle.std.specs.Prelude.{◌≡◌, ℕ, Bool, true, false, List, Result, IfOk}
use Rattle.std.specs.Io.KnownBytes.{Appends}
use Rattle.pb_sorts.specs.declared.sink.Sink.{Ghosts}
use Rattle.pb_report.specs.Delivery as delivery
use Rattle.pb_report.specs.Report.{report_text}
use Rattle.pb_report.specs.declared.answer.Answer.{Answer}
use Rattle.pb_command_faults.specs.Errors.{IfInputRefused}
use Rattle.pb_command_faults.specs.declared.solve_fault.SolveFault.{SolveFault}
use Rattle.pb_command_faults.specs.declared.solve_error.SolveError.{SolveError}
use Rattle.pb_command_faults.specs.declared.solve_error.SolveError.TheVariants.{Write}

-- whether the error is a failed write
abbrev pub is_failed_write : SolveError → Bool
is_failed_write (Write _) = true
is_failed_write _ = false

-- a text that may be written was appended, or an error left what it leaves
abbrev pub Delivers : {S T : Type 0} → (List ℕ → Type 0) → Result T SolveError → Ghosts S
    → (old new : S) → Type 0
Delivers IsWritten result sink old new =
    delivery.Delivers is_failed_write IsWritten result sink old new

-- so it is, and where the input is refused the fault says this of it
abbrev pub DeliversOrRefuses : {S T : Type 0} → (List ℕ → Type 0) → (SolveFault → Type 0)
    → Result T SolveError → Ghosts S → (old new : S) → Type 0
DeliversOrRefuses IsWritten IsRefused result sink old new =
    Delivers IsWritten result sink old new × IfInputRefused result IsRefused

-- the text is the report of such an answer
abbrev pub IsReportOf : (Answer → Type 0) → List ℕ → Type 0
IsReportOf IsAnswer text = (a : Answer) × IsAnswer a × (text ≡ report_text a)

-- Such an answer is returned, and its report was appended; and whatever is returned, the report of
-- such an answer was delivered, or the input is refused, and the fault says this of it.
pub record ReportsOrRefuses {S : Type 0} (IsAnswer : Answer → Type 0)
    (IsRefused : SolveFault → Type 0) (result : Result Answer SolveError) (sink : Ghosts S)
    (old new : S) : Type 0 where
  pub answer : IfOk result IsAnswer
  pub report : IfOk result (λ a. Appends (sink.taken old) (sink.taken new) (report_text a))
  pub written : DeliversOrRefuses (IsReportOf IsAnswer) IsRefused result sink old new
