-- How a request is answered for the bytes of one input.
use Rattle.std.specs.Prelude.{◌≡◌, ◌≤◌, ℕ, Bool, true, false, List, [], Option, length}
use Rattle.pb_sorts.specs.Source.{IsWhole}
use Rattle.pb_base.specs.declared.limits.TheConstants.{MAX_INPUT_BYTES}
use Rattle.pb_command_faults.specs.Errors.{fault_line}
use Rattle.pb_command_faults.specs.Lines as lines
use Rattle.pb_command_faults.specs.declared.fault.ProgramFault.{ProgramFault}
use Rattle.pb_command_faults.specs.declared.fault.ProgramFault.TheVariants.{U01, U02, E01, E02, M01}
use Rattle.pb_command_faults.specs.declared.solve_fault.SolveFault.{SolveFault}
use Rattle.pb_command_line.specs.Pages.{page_words}
use Rattle.pb_command_line.specs.declared.request.Request.{Request}
use Rattle.pb_command_line.specs.declared.request.Request.TheVariants.{Page, Check, Input}
use Rattle.pb_command_line.specs.declared.status.Status.{Status}
use Rattle.pb_command_line.specs.declared.status.Status.TheVariants.{Answered, Refused, Usage, OutOfMemory, Failed}
use Rattle.pb_command_models.specs.Models.{IsUnchecked}
use Rattle.pb_command_models.specs.Writes.{WritesVerdicts}
use Rattle.pbsolve.specs.Writes.{IsRefusedFor, Writes}
use Rattle.pbsolve.specs.declared.run_error.RunError.{RunError}
use Rattle.pbsolve.specs.declared.run_error.RunError.TheVariants as run_error

-- how a run ends that has a fault, or an error
abbrev pub fault_status : ProgramFault → Status
fault_status U01 = Usage
fault_status U02 = Refused
fault_status E01 = Failed
fault_status E02 = Failed
fault_status M01 = OutOfMemory

abbrev pub status_of : RunError → Status
status_of (run_error.ProgramFault f) = fault_status f
status_of (run_error.Refused fault) = Refused

-- the line on standard error
abbrev pub error_line_of : RunError → List ℕ
error_line_of (run_error.ProgramFault f) = lines.line_of f
error_line_of (run_error.Refused fault) = fault_line fault

-- the request is answered of an input, and not by a page
abbrev pub reads_input : Request → Bool
reads_input (Page page) = false
reads_input (Check options) = true
reads_input (Input task) = true

-- the bytes that are read for a request: none for a page, and else the whole input, of at most so
-- many bytes as the program takes
abbrev pub IsInputOf : Request → Option (List ℕ) → List ℕ → Type 0
IsInputOf (Page page) known bytes = bytes ≡ []
IsInputOf (Check options) known bytes = (length bytes ≤ MAX_INPUT_BYTES) × IsWhole known bytes
IsInputOf (Input task) known bytes = (length bytes ≤ MAX_INPUT_BYTES) × IsWhole known bytes

-- the request is answered for the bytes with this exit status, and by this text
abbrev pub Answers : Request → List ℕ → Status → List ℕ → Type 0
Answers (Page page) bytes status written = (status ≡ Answered) × (written ≡ page_words page)
Answers (Check options) bytes status written = WritesVerdicts options bytes status written
Answers (Input task) bytes status written = (status ≡ Answered) × Writes task bytes written

-- the request refuses the bytes by this fault
abbrev pub RefusesBytes : Request → List ℕ → SolveFault → Type 0
RefusesBytes (Page page) bytes fault = ⊥
RefusesBytes (Check options) bytes fault = IsUnchecked options bytes fault
RefusesBytes (Input task) bytes fault = IsRefusedFor task bytes fault

-- P holds of the request and of the bytes that are read for it, where these are known
abbrev pub OfInput : Request → Option (List ℕ) → (Request → List ℕ → Type 0) → Type 0
OfInput request known P =
    (bytes : List ℕ) × IsInputOf request known bytes × P request bytes
