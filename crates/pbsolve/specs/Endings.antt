-- How a run of the program ends, and each part of it: the input is read, the request answered, of
-- standard input or of files, the words tried.
use Rattle.std.specs.Prelude.{◌≡◌, ◌≢◌, ◌≤◌, ◌⊎◌, ◌∷◌, ℕ, List, [], codes, vec_len, Vec}
use Rattle.std.specs.Prelude.{Bool, Option, Result, Err, IfErr, IfOk, OnOk, true, false}
use Rattle.std.specs.declared.alloc.Global.{Global}
use Rattle.pb_base.specs.declared.limits.TheConstants.{MAX_INPUT_BYTES}
use Rattle.pb_base.specs.OrMemory.{OnRefused}
use Rattle.pb_base.specs.declared.or_memory.OrMemory.{OrMemory}
use Rattle.pb_base.specs.declared.or_memory.OrMemory.TheVariants as or_memory
use Rattle.pb_sorts.specs.declared.input.InputFault.{InputFault}
use Rattle.pb_sorts.specs.declared.input.InputFault.TheVariants as input_fault
use Rattle.pb_sorts.specs.Source.{IsLongerThan}
use Rattle.pb_sorts.specs.declared.sink.Sink.{Ghosts}
use Rattle.pb_command_files.specs.declared.named.NamedFiles.{Ghosts as FileGhosts}
use Rattle.pb_sorts.specs.declared.source.Source.{Ghosts as ReaderGhosts}
use Rattle.pb_report.specs.Delivery as delivery
use Rattle.pb_command_faults.specs.declared.fault.ProgramFault.TheVariants.{U01, U02, E01, E02, M01}
use Rattle.pb_command_faults.specs.declared.solve_error.SolveError.{SolveError}
use Rattle.pb_command_faults.specs.declared.solve_error.SolveError.TheVariants as solve_error
use Rattle.pb_command_faults.specs.declared.solve_fault.SolveFault.TheVariants.{NoProperty}
use Rattle.pb_command_faults.specs.Errors.{IfInputRefused}
use Rattle.pb_command_line.specs.Words.{AskNothing, AskPlainly, HaveFault, property_names}
use Rattle.pb_command_line.specs.Words.{task_names}
use Rattle.pb_command_line.specs.declared.request.Request.{Request}
use Rattle.pb_command_line.specs.declared.request.Task.{Task}
use Rattle.pb_command_modules.specs.Delivery.{Delivers}
use Rattle.pbsolve.specs.declared.run_error.RunError.{RunError}
use Rattle.pbsolve.specs.declared.run_error.RunError.TheVariants as run_error
use Rattle.pb_command_line.specs.declared.status.Status.{Status}
use Rattle.pb_command_line.specs.declared.status.Status.TheVariants as status
use Rattle.pbsolve.specs.declared.streams.Streams.{Streams}
use Rattle.pbsolve.specs.Writes.{IsRefusedFor, Writes}
use Rattle.pb_command_models.specs.Writes.{WithStatus}
use Rattle.pbsolve.specs.declared.ended.Ended.{Ended}
use Rattle.pbsolve.specs.declared.files.FileReport.{FileReport}
use Rattle.pbsolve.specs.Files.{AnswersFiles, IsFileOutcome, Outcome, end_of, file_diagnostics}
use Rattle.pbsolve.specs.Files.{file_lines, is_lost, known_files}
use Rattle.pbsolve.specs.Program.{AnswersBy, AnswersWords, AskOfInput, BeginsAnswer, FailsReading}
use Rattle.pbsolve.specs.Program.{IsRefusedBy, IsUnanswered, Known, LeavesReader, AskForFiles}
use Rattle.pbsolve.specs.Program.{Tells, TellsRefusal, WritesDiagnostics, is_write_fault}
use Rattle.pbsolve.specs.Requests.{Answers, IsInputOf, OfInput, RefusesBytes, error_line_of}
use Rattle.pbsolve.specs.Requests.{reads_input, status_of}

-- ---- the parts

-- The bytes by which a request is answered are read, or reading failed, or there are too many. For
-- a page none is read, so that nothing of an input refuses it.
pub record ReadsInput {R : Type 0} (request : Request) (source : ReaderGhosts R) (old new : R)
    (result : Result (Vec ℕ Global) (OrMemory InputFault)) : Type 0 where
  pub input : IfOk result (λ input. IsInputOf request (source.left old) input.items)
  pub short : IfOk result (λ input. vec_len input ≤ MAX_INPUT_BYTES)
  pub read : OnOk result (source.has_failed new ≡ source.has_failed old)
  pub failed :
      result ≡ Err (or_memory.Refused input_fault.Failed) → FailsReading source old new
  pub err_failed : IfErr result (λ e. e ≢ or_memory.Refused input_fault.Failed →
      source.has_failed new ≡ source.has_failed old)
  pub too_long : result ≡ Err (or_memory.Refused input_fault.TooLong) →
      IsLongerThan MAX_INPUT_BYTES (source.left old)
  pub unread : (new ≡ old) ⊎ (reads_input request ≡ true)
  pub refused : OnRefused result (reads_input request ≡ true)

-- What a task asks of the bytes is written, or they are refused: for want of a property only where
-- one is named.
pub record AnswersTask {S T : Type 0} (task : Task) (bytes : List ℕ) (result : Result T SolveError)
    (sink : Ghosts S) (old new : S) : Type 0 where
  pub written : Delivers (Writes task bytes) result sink old new
  pub refused : IfInputRefused result (IsRefusedFor task bytes)
  pub named : result ≡ Err (solve_error.Refused NoProperty) → task_names task ≢ []

-- so it is with a request, and the run ends with the status that belongs to what is written
pub record AnswersRequest {S : Type 0} (request : Request) (bytes : List ℕ)
    (result : Result Status SolveError) (sink : Ghosts S) (old new : S) : Type 0 where
  pub written : Delivers (WithStatus result (Answers request bytes)) result sink old new
  pub refused : IfInputRefused result (RefusesBytes request bytes)
  pub named : result ≡ Err (solve_error.Refused NoProperty) → property_names request ≢ []

-- of some end, which is that of the result where there is one, this is written
abbrev pub WithEnd : {E : Type 0} → Result Ended E → (Status → List ℕ → List ℕ → Type 0) → List ℕ →
    Type 0
WithEnd result IsWritten written =
    (end : Status) × (diagnostics : List ℕ)
    × IfOk result (λ e. (e.status ≡ end) × (e.diagnostics.items ≡ diagnostics))
    × IsWritten end diagnostics written

-- what an error says of the bytes of an input, of which so much is known
abbrev pub IsRefusedInput : Request → Option (List ℕ) → RunError → Type 0
IsRefusedInput request known (run_error.ProgramFault U02) =
    (reads_input request ≡ true) × IsLongerThan MAX_INPUT_BYTES known
IsRefusedInput request known (run_error.ProgramFault U01) =
    OfInput request known (λ r bytes. RefusesBytes r bytes NoProperty)
IsRefusedInput request known (run_error.ProgramFault E01) = reads_input request ≡ true
IsRefusedInput request known (run_error.ProgramFault E02) = Unit {0}
IsRefusedInput request known (run_error.ProgramFault M01) = Unit {0}
IsRefusedInput request known (run_error.Refused fault) =
    (fault ≢ NoProperty) × OfInput request known (λ r bytes. RefusesBytes r bytes fault)

-- What is asked of standard input is answered, or the error is why it isn't.
pub record EndsInput {R S : Type 0} (request : Request) (source : ReaderGhosts R)
    (reader read_on : R) (result : Result Ended RunError) (sink : Ghosts S) (old new : S)
    : Type 0 where
  pub written : delivery.Delivers is_write_fault (WithEnd result (λ end diagnostics text.
      OfInput request (source.left reader) (λ r bytes. Answers r bytes end text)
      × (diagnostics ≡ []))) result sink old new
  pub read : OnOk result (source.has_failed read_on ≡ source.has_failed reader)
  pub unread : (read_on ≡ reader) ⊎ (reads_input request ≡ true)
  pub refused : IfErr result (IsRefusedInput request (source.left reader))
  pub left : IfErr result (λ e. LeavesReader e source reader read_on)
  pub named : result ≡ Err (run_error.ProgramFault U01) → property_names request ≢ []

-- ---- files

-- what becomes of files while some are read: no bytes change, and one that couldn't be read stays
-- so; where none is lost, no other comes to be so
pub record LeavesFiles {F : Type 0} (lost : Bool) (shelf : FileGhosts F) (old new : F)
    : Type 0 where
  pub same : (name : List ℕ) → shelf.contents new name ≡ shelf.contents old name
  pub lasts : (name : List ℕ) → shelf.has_failed old name ≡ true → shelf.has_failed new name ≡ true
  pub kept : lost ≡ false → (name : List ℕ) →
      shelf.has_failed new name ≡ shelf.has_failed old name

-- whether the error is that a file couldn't be read
abbrev pub is_lost_file : RunError → Bool
is_lost_file (run_error.ProgramFault E01) = true
is_lost_file (run_error.ProgramFault U01) = false
is_lost_file (run_error.ProgramFault U02) = false
is_lost_file (run_error.ProgramFault E02) = false
is_lost_file (run_error.ProgramFault M01) = false
is_lost_file (run_error.Refused fault) = false

-- A file is read and answered, or the error is why it isn't.
pub record AnswersFile {F S : Type 0} (request : Request) (name : List ℕ) (shelf : FileGhosts F)
    (files read_on : F) (result : Result Status RunError) (sink : Ghosts S) (old new : S)
    : Type 0 where
  pub written : delivery.Delivers is_write_fault
      (WithStatus result (λ end text. OfInput request (shelf.contents files name)
      (λ r bytes. Answers r bytes end text))) result sink old new
  pub refused : IfErr result (IsRefusedInput request (shelf.contents files name))
  pub lost : IfErr result (λ e. is_lost_file e ≡ true → shelf.has_failed read_on name ≡ true)
  pub answered : OnOk result (LeavesFiles false shelf files read_on)
  pub left : IfErr result (λ e. LeavesFiles (is_lost_file e) shelf files read_on)

-- what becomes of a file, as the code has it
abbrev pub outcome_form : List ℕ → FileReport → Outcome
outcome_form name report = record {
  name = name;
  status = report.status;
  written = report.written.items;
  diagnostics = report.diagnostics.items;
}

-- one more file is answered
pub record ReportsFile {F : Type 0} (request : Request) (name : List ℕ) (shelf : FileGhosts F)
    (files read_on : F) (report : FileReport) : Type 0 where
  pub outcome : IsFileOutcome request (known_files shelf files read_on) (outcome_form name report)
  pub left : LeavesFiles (is_lost report.status) shelf files read_on

-- whether no other file is answered either: memory was refused, or a write failed
abbrev pub ends_run : RunError → Bool
ends_run (run_error.ProgramFault M01) = true
ends_run (run_error.ProgramFault E02) = true
ends_run (run_error.ProgramFault U01) = false
ends_run (run_error.ProgramFault U02) = false
ends_run (run_error.ProgramFault E01) = false
ends_run (run_error.Refused fault) = false

-- the error is one of a file alone: nothing is written, and the line is that of the error
pub record IsRefusal (error : RunError) (report : FileReport) : Type 0 where
  pub alone : ends_run error ≡ false
  pub status : report.status ≡ status_of error
  pub written : report.written.items ≡ []
  pub diagnostics : report.diagnostics.items ≡ error_line_of error

-- the report is that of these files, the last one first
pub record IsFileReport (several : Bool) (outcomes : List Outcome) (report : FileReport)
    : Type 0 where
  pub end : report.status ≡ end_of outcomes
  pub written : report.written.items ≡ file_lines several outcomes
  pub diagnostics : report.diagnostics.items ≡ file_diagnostics several outcomes

-- the report goes on by the lines of a file: whichever files it was of, it is of these and of this
-- one
abbrev pub AddsFile : Bool → List ℕ → FileReport → (old new : FileReport) → Type 0
AddsFile several name report old new =
    (before : List Outcome) → IsFileReport several before old
    → IsFileReport several (outcome_form name report ∷ before) new

-- What is asked of the files that a request names is answered, and only a refused request for
-- memory or a failed write is an error.
pub record EndsFiles {F S : Type 0} (request : Request) (shelf : FileGhosts F) (files read_on : F)
    (result : Result Ended RunError) (sink : Ghosts S) (old new : S) : Type 0 where
  pub written : delivery.Delivers is_write_fault
      (WithEnd result (AnswersFiles request (known_files shelf files read_on))) result sink old new
  pub left : IfOk result (λ ended. LeavesFiles (is_lost ended.status) shelf files read_on)
  pub errors : IfErr result (λ e.
      (e ≡ run_error.ProgramFault M01) ⊎ (e ≡ run_error.ProgramFault E02))

-- ---- the words

-- what is known of what a run may read
abbrev pub known_by : {R F : Type 0} → ReaderGhosts R → R → FileGhosts F → (old new : F) → Known
known_by source reader shelf old new =
    record { input = source.left reader; files = known_files shelf old new }

-- What the words ask for is answered, or the error is why it isn't: a fault of theirs, which is
-- seen before a byte is read, the input, the reader or the writer. Of files each is answered, and
-- only a refused request for memory or a failed write is an error. Standard input is read only
-- where the words ask for something of it: not where files are, and not for a page.
pub record AttemptsAnswer {R F O : Type 0} (words : List (List ℕ)) (source : ReaderGhosts R)
    (reader read_on : R) (shelf : FileGhosts F) (files files_on : F) (sink : Ghosts O)
    (old new : O) (result : Result Ended RunError)
    : Type 0 where
  pub written : delivery.Delivers is_write_fault
      (WithEnd result (AnswersWords words (known_by source reader shelf files files_on)))
      result sink old new
  pub read : OnOk result (source.has_failed read_on ≡ source.has_failed reader)
  pub unread : (read_on ≡ reader) ⊎ AskOfInput words
  pub asked : AskPlainly words → (result ≢ Err (run_error.ProgramFault U01))
      × IfOk result (λ ended. ended.status ≢ status.Usage)
  pub unasked : AskNothing words → IsUnanswered result
  pub faulty : HaveFault words → IsUnanswered result × (read_on ≡ reader) × (files_on ≡ files)
  pub refused : IfErr result (IsRefusedBy words (known_by source reader shelf files files_on))
  pub left : IfErr result (λ e. LeavesReader e source reader read_on)
  pub apart : (files_on ≡ files) ⊎ (AskForFiles words × (read_on ≡ reader))
  pub files_kept : IfOk result (λ ended. LeavesFiles (is_lost ended.status) shelf files files_on)
  pub files_left : IfErr result (λ e. e ≢ run_error.ProgramFault M01
      → e ≢ run_error.ProgramFault E02 → files_on ≡ files)

-- ---- the whole run, by what was read and written

-- what was known of the inputs of a run
abbrev pub known_in : {R F O E : Type 0} → ReaderGhosts R → FileGhosts F
    → (old new : Streams R F O E) → Known
known_in source shelf old new = known_by source old.input shelf old.files new.files

-- what is asked for went out, with the status that belongs to it, and on standard error only the
-- lines on files that aren't answered
abbrev pub IsAnswered : {R F O E : Type 0} → List (List ℕ) → Status → ReaderGhosts R → FileGhosts F
    → Ghosts O → Ghosts E → (old new : Streams R F O E) → Type 0
IsAnswered words end source shelf sink errors old new =
    (diagnostics : List ℕ) × WritesDiagnostics diagnostics errors old.error new.error
    × AnswersBy words (known_in source shelf old new) end diagnostics sink old.output new.output

-- so it is, and the words ask of files
abbrev pub IsAnsweredOfFiles : {R F O E : Type 0} → List (List ℕ) → Status → ReaderGhosts R
    → FileGhosts F → Ghosts O → Ghosts E → (old new : Streams R F O E) → Type 0
IsAnsweredOfFiles words end source shelf sink errors old new =
    AskForFiles words × IsAnswered words end source shelf sink errors old new

-- nothing went out but a line on why the input is refused; or a property that was checked is, or a
-- file, and the verdicts and other files' lines went out
abbrev pub IsRefusedRun : {R F O E : Type 0} → List (List ℕ) → ReaderGhosts R → FileGhosts F
    → Ghosts O → Ghosts E → (old new : Streams R F O E) → Type 0
IsRefusedRun words source shelf sink errors old new =
    ((new.output ≡ old.output)
    × TellsRefusal words (known_in source shelf old new) errors old.error new.error)
    ⊎ IsAnswered words status.Refused source shelf sink errors old new

-- nothing went out but the line of wrong words; or the model of some file has no property of a
-- name, and the other files' lines went out
abbrev pub IsWrongRun : {R F O E : Type 0} → List (List ℕ) → ReaderGhosts R → FileGhosts F
    → Ghosts O → Ghosts E → (old new : Streams R F O E) → Type 0
IsWrongRun words source shelf sink errors old new =
    ((new.output ≡ old.output) × Tells (codes "U01\n") errors old.error new.error)
    ⊎ IsAnsweredOfFiles words status.Usage source shelf sink errors old new

-- reading standard input failed before the limit was passed, with nothing written; or a file
-- couldn't be read, and the other files' lines went out; or writing failed, and no read of standard
-- input did
abbrev pub FailsRun : {R F O E : Type 0} → List (List ℕ) → ReaderGhosts R → FileGhosts F → Ghosts O
    → Ghosts E → (old new : Streams R F O E) → Type 0
FailsRun words source shelf sink errors old new =
    (AskOfInput words × FailsReading source old.input new.input
    × (new.output ≡ old.output) × Tells (codes "E01\n") errors old.error new.error)
    ⊎ (IsAnsweredOfFiles words status.Failed source shelf sink errors old new
    ⊎ ((source.has_failed new.input ≡ source.has_failed old.input)
    × BeginsAnswer words (known_in source shelf old new) sink old.output new.output
    × Tells (codes "E02\n") errors old.error new.error))
