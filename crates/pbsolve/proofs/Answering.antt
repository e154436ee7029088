-- What an error of the words, of an input or of a command becomes, and what it leaves.
use Rattle.std.proofs.Common.{◌≡◌, ◌≢◌, ℕ, true, false, List, Option, Result, Ok, Err, IfErr, IsErrAnd, refl, subst, sym}
use Rattle.pb_sorts.specs.declared.sink.Sink.{Ghosts}
use Rattle.pb_sorts.specs.declared.source.Source.{Ghosts as ReaderGhosts}
use Rattle.pb_sorts.specs.Source.{IsLongerThan}
use Rattle.pb_sorts.specs.declared.input.InputFault.{InputFault}
use Rattle.pb_sorts.specs.declared.input.InputFault.TheVariants.{Failed, TooLong}
use Rattle.pb_base.specs.declared.limits.TheConstants.{MAX_INPUT_BYTES}
use Rattle.pb_base.specs.OrMemory.{IfFault}
use Rattle.pb_base.specs.declared.or_memory.OrMemory.{OrMemory}
use Rattle.pb_base.specs.declared.or_memory.OrMemory.TheVariants.{Refused, Memory}
use Rattle.pb_command_faults.specs.declared.fault.ProgramFault.TheVariants as fault
use Rattle.pb_command_faults.specs.declared.solve_error.SolveError.{SolveError}
use Rattle.pb_command_faults.specs.declared.solve_error.SolveError.TheVariants as solve_error
use Rattle.pb_command_faults.specs.declared.solve_fault.SolveFault.TheVariants.{Text, Typing, Limit, Module, Acceptance, Property, TooManyVertices, NoProperty}
use Rattle.pb_command_faults.specs.Errors.{IfInputFault}
use Rattle.pb_command_line.specs.declared.request.Request.{Request}
use Rattle.pb_command_line.specs.declared.words.Usage.{Usage}
use Rattle.pb_command_modules.specs.Delivery as commands
use Rattle.pb_report.specs.Delivery.{Delivers, Leaves}
use Rattle.pb_report.proofs.Delivery.{less_text}
use Rattle.pbsolve.specs.declared.run_error.RunError.{RunError}
use Rattle.pbsolve.specs.declared.run_error.RunError.TheVariants.{ProgramFault}
use Rattle.pbsolve.specs.Endings.{IsRefusedInput}
use Rattle.pbsolve.specs.Errors.{run_error_of_input, run_error_of_solving, run_error_of_words}
use Rattle.pbsolve.specs.Program.{FailsReading, LeavesReader, is_write_fault}
use Rattle.pbsolve.specs.Requests.{OfInput, RefusesBytes, reads_input}

-- what holds of a model without the property holds where that is told
pub by_property : (P : Type 0) (e : SolveError) → (e ≡ solve_error.Refused NoProperty → P) → run_error_of_solving e ≡ ProgramFault fault.U01 → P
by_property P (solve_error.Refused NoProperty) f h = f refl
by_property P (solve_error.Refused (Text x)) f h = absurd (cc h)
by_property P (solve_error.Refused (Typing x)) f h = absurd (cc h)
by_property P (solve_error.Refused (Limit x)) f h = absurd (cc h)
by_property P (solve_error.Refused (Module x)) f h = absurd (cc h)
by_property P (solve_error.Refused (Acceptance x)) f h = absurd (cc h)
by_property P (solve_error.Refused (Property x)) f h = absurd (cc h)
by_property P (solve_error.Refused TooManyVertices) f h = absurd (cc h)
by_property P solve_error.Memory f h = absurd (cc h)
by_property P (solve_error.Write failed) f h = absurd (cc h)

-- too long an input is refused whatever is asked of it
pub input_refused : (request : Request) (known : Option (List ℕ)) (e : OrMemory InputFault) → IfFault e (λ _. reads_input request ≡ true)
    → (e ≡ Refused TooLong → IsLongerThan MAX_INPUT_BYTES known) → IsRefusedInput request known (run_error_of_input e)
input_refused request known (Refused Failed) reads long = reads
input_refused request known (Refused TooLong) reads long = (reads, long refl)
input_refused request known Memory reads long = tt

-- no error of an input is one of the words
pub input_is_no_usage : (e : OrMemory InputFault) → run_error_of_input e ≡ ProgramFault fault.U01 → ⊥
input_is_no_usage (Refused Failed) is = absurd (cc is)
input_is_no_usage (Refused TooLong) is = absurd (cc is)
input_is_no_usage Memory is = absurd (cc is)

-- what a command's error says of its input, that of the run does
pub answer_refused : (request : Request) (known : Option (List ℕ)) (e : SolveError)
    → OfInput request known (λ r bytes. IfInputFault e (RefusesBytes r bytes)) → IsRefusedInput request known (run_error_of_solving e)
answer_refused request known solve_error.Memory h = tt
answer_refused request known (solve_error.Write failed) h = tt
answer_refused request known (solve_error.Refused (Text x)) h = ((λ same. absurd (cc same)), h)
answer_refused request known (solve_error.Refused (Typing x)) h = ((λ same. absurd (cc same)), h)
answer_refused request known (solve_error.Refused (Limit x)) h = ((λ same. absurd (cc same)), h)
answer_refused request known (solve_error.Refused (Module x)) h = ((λ same. absurd (cc same)), h)
answer_refused request known (solve_error.Refused (Acceptance x)) h = ((λ same. absurd (cc same)), h)
answer_refused request known (solve_error.Refused (Property x)) h = ((λ same. absurd (cc same)), h)
answer_refused request known (solve_error.Refused TooManyVertices) h = ((λ same. absurd (cc same)), h)
answer_refused request known (solve_error.Refused NoProperty) h = h

-- ---- what is written

-- of words and input no error is a failed write
pub words_unwritten : (e : OrMemory Usage) → is_write_fault (run_error_of_words e) ≡ false
words_unwritten (Refused usage) = refl
words_unwritten Memory = refl

pub input_unwritten : (e : OrMemory InputFault) → is_write_fault (run_error_of_input e) ≡ false
input_unwritten (Refused Failed) = refl
input_unwritten (Refused TooLong) = refl
input_unwritten Memory = refl

-- a command's error is a failed write where the run's is one
module _ {S : Type 0} (sink : Ghosts S) (More Less : List ℕ → Type 0) (less : (text : List ℕ) → More text → Less text) (old new : S) where
  left_by : (e : SolveError) → Leaves (commands.is_failed_write e) More sink old new → Leaves (is_write_fault (run_error_of_solving e)) Less sink old new
  left_by (solve_error.Write failed) h = (less_text sink More Less less old new _ h.0, h.1)
  left_by solve_error.Memory h = h
  left_by (solve_error.Refused (Text x)) h = h
  left_by (solve_error.Refused (Typing x)) h = h
  left_by (solve_error.Refused (Limit x)) h = h
  left_by (solve_error.Refused (Module x)) h = h
  left_by (solve_error.Refused (Acceptance x)) h = h
  left_by (solve_error.Refused (Property x)) h = h
  left_by (solve_error.Refused TooManyVertices) h = h
  left_by (solve_error.Refused NoProperty) h = h

  pub left_up : {T : Type 0} (e : SolveError) → Leaves (commands.is_failed_write e) More sink old new → (r : Result T RunError) → IsErrAnd r (λ y. y ≡ run_error_of_solving e)
      → Delivers is_write_fault Less r sink old new
  left_up e h (Ok v) made = absurd made
  left_up e h (Err y) made = subst (λ (x : RunError). Leaves (is_write_fault x) Less sink old new) (sym made) (left_by e h)

-- ---- what is read

-- a fault that is no failed read leaves no failed read behind
module _ {R : Type 0} (source : ReaderGhosts R) (old new : R) where
  pub words_leave : (e : OrMemory Usage) → source.has_failed new ≡ source.has_failed old → LeavesReader (run_error_of_words e) source old new
  words_leave (Refused usage) h = h
  words_leave Memory h = h

  pub input_leaves : (e : OrMemory InputFault) → (e ≡ Refused Failed → FailsReading source old new)
      → (e ≢ Refused Failed → source.has_failed new ≡ source.has_failed old) → LeavesReader (run_error_of_input e) source old new
  input_leaves (Refused Failed) fails h = fails refl
  input_leaves (Refused TooLong) fails h = h (λ is. absurd (cc is))
  input_leaves Memory fails h = h (λ is. absurd (cc is))

  pub solving_leaves : (e : SolveError) → source.has_failed new ≡ source.has_failed old → LeavesReader (run_error_of_solving e) source old new
  solving_leaves (solve_error.Write failed) h = h
  solving_leaves solve_error.Memory h = h
  solving_leaves (solve_error.Refused (Text x)) h = h
  solving_leaves (solve_error.Refused (Typing x)) h = h
  solving_leaves (solve_error.Refused (Limit x)) h = h
  solving_leaves (solve_error.Refused (Module x)) h = h
  solving_leaves (solve_error.Refused (Acceptance x)) h = h
  solving_leaves (solve_error.Refused (Property x)) h = h
  solving_leaves (solve_error.Refused TooManyVertices) h = h
  solving_leaves (solve_error.Refused NoProperty) h = h

-- what holds of an error holds of that which `?` hands up
pub handed : {T : Type 0} (P : RunError → Type 0) (r : Result T RunError) (x : RunError) → IsErrAnd r (λ e. e ≡ x) → P x → IfErr r P
handed P (Ok y) x made h = tt
handed P (Err e) x made h = subst P (sym made) h
