-- A file is answered as standard input is.
use Rattle.std.proofs.Common.{◌≡◌, ◌≢◌, ◌≤◌, ℕ, length, [], true, false, List, Option, Result, Ok, Err, ap, refl, rules, subst, sym}
use Rattle.std.specs.Prelude.{IfOk}
use Rattle.pb_base.specs.declared.limits.TheConstants.{MAX_INPUT_BYTES}
use Rattle.pb_base.specs.OrMemory.{IfFault}
use Rattle.pb_base.specs.declared.or_memory.OrMemory.{OrMemory}
use Rattle.pb_base.specs.declared.or_memory.OrMemory.TheVariants as or_memory
use Rattle.pb_sorts.specs.Source.{IsWhole}
use Rattle.pb_sorts.specs.declared.input.InputFault.{InputFault}
use Rattle.pb_sorts.specs.declared.input.InputFault.TheVariants.{Failed, TooLong}
use Rattle.pb_report.proofs.Delivery.{left_nothing}
use Rattle.pb_command_faults.specs.Errors.{IfInputFault}
use Rattle.pb_command_faults.specs.declared.solve_error.SolveError.{SolveError}
use Rattle.pb_command_faults.specs.declared.solve_error.SolveError.TheVariants as solve_error
use Rattle.pb_command_faults.specs.declared.solve_fault.SolveFault.TheVariants.{Text, Typing, Limit, Module, Acceptance, Property, TooManyVertices, NoProperty}
use Rattle.pb_command_files.specs.declared.named.NamedFiles.{Ghosts as FileGhosts}
use Rattle.pb_command_line.specs.Words.{request_files}
use Rattle.pb_command_line.specs.declared.request.Request.{Request}
use Rattle.pb_command_line.specs.declared.request.Request.TheVariants.{Page, Check, Input}
use Rattle.pb_command_line.specs.declared.status.Status.{Status}
use Rattle.pb_command_models.specs.Writes.{WithStatus}
use Rattle.pb_command_models.proofs.Findings.{no_status}
use Rattle.pb_command_modules.proofs.Deliveries.{delivered, left, less_sent}
use Rattle.pbsolve.specs.declared.run_error.RunError.{RunError}
use Rattle.pbsolve.specs.Endings.{IsRefusedInput, LeavesFiles, is_lost_file}
use Rattle.pbsolve.specs.Errors.{run_error_of_input, run_error_of_solving}
use Rattle.pbsolve.specs.Program.{is_write_fault}
use Rattle.pbsolve.specs.Requests.{Answers, IsInputOf, OfInput, RefusesBytes, reads_input}
use Rattle.pbsolve.proofs.Answering.{answer_refused, handed, input_refused, input_unwritten, left_up}
use Rattle.pbsolve.proofs.files.answer_file.Given.{Over}
use Rattle.pbsolve.proofs.files.answer_file.Goals as goal
use Rattle.pbsolve.proofs.files.answer_file.Goals.{After-as_slice-bytes}

abbrev AnswersFileBytes : Request → Option (List ℕ) → Status → List ℕ → Type 0
AnswersFileBytes request known end text = OfInput request known (λ r bytes. Answers r bytes end text)

-- ---- that a file couldn't be read is the error of its input alone

input_leaves_files : {F : Type 0} (shelf : FileGhosts F) (old new : F) (e : OrMemory InputFault) → ((name : List ℕ) → shelf.contents new name ≡ shelf.contents old name)
    → ((name : List ℕ) → shelf.has_failed old name ≡ true → shelf.has_failed new name ≡ true)
    → (e ≢ or_memory.Refused Failed → (name : List ℕ) → shelf.has_failed new name ≡ shelf.has_failed old name)
    → LeavesFiles (is_lost_file (run_error_of_input e)) shelf old new
input_leaves_files shelf old new (or_memory.Refused Failed) same lasts keeps = record { same = same; lasts = lasts; kept = λ is. absurd (cc is) }
input_leaves_files shelf old new (or_memory.Refused TooLong) same lasts keeps = record { same = same; lasts = lasts; kept = λ none. keeps (λ is. absurd (cc is)) }
input_leaves_files shelf old new or_memory.Memory same lasts keeps = record { same = same; lasts = lasts; kept = λ none. keeps (λ is. absurd (cc is)) }

input_lost : (P : Type 0) (e : OrMemory InputFault) → (e ≡ or_memory.Refused Failed → P) → is_lost_file (run_error_of_input e) ≡ true → P
input_lost P (or_memory.Refused Failed) fails is = fails refl
input_lost P (or_memory.Refused TooLong) fails is = absurd (cc is)
input_lost P or_memory.Memory fails is = absurd (cc is)

solving_not_lost : (e : SolveError) → is_lost_file (run_error_of_solving e) ≡ false
solving_not_lost (solve_error.Write failed) = refl
solving_not_lost solve_error.Memory = refl
solving_not_lost (solve_error.Refused (Text x)) = refl
solving_not_lost (solve_error.Refused (Typing x)) = refl
solving_not_lost (solve_error.Refused (Limit x)) = refl
solving_not_lost (solve_error.Refused (Module x)) = refl
solving_not_lost (solve_error.Refused (Acceptance x)) = refl
solving_not_lost (solve_error.Refused (Property x)) = refl
solving_not_lost (solve_error.Refused TooManyVertices) = refl
solving_not_lost (solve_error.Refused NoProperty) = refl

-- ---- the bytes that were read

-- where files are named, the input is one of them, whole
input_of_file : (request : Request) (known : Option (List ℕ)) (bytes : List ℕ) → request_files request ≢ [] → length bytes ≤ MAX_INPUT_BYTES → IsWhole known bytes
    → IsInputOf request known bytes
input_of_file (Page page) known bytes named short whole = absurd (named refl)
input_of_file (Check options) known bytes named short whole = (short, whole)
input_of_file (Input task) known bytes named short whole = (short, whole)

named_reads : (request : Request) → request_files request ≢ [] → reads_input request ≡ true
named_reads (Page page) named = absurd (named refl)
named_reads (Check options) named = refl
named_reads (Input task) named = refl

whatever_fault : {P : Type 0} (e : OrMemory InputFault) → P → IfFault e (λ _. P)
whatever_fault (or_memory.Refused fault) p = p
whatever_fault or_memory.Memory p = tt

module _ (g : Over) (c : After-as_slice-bytes g) where
  -- the bytes that were read are those of the request
  of_file : (P : Request → List ℕ → Type 0) → P c.args.request.now c.as_slice-bytes.result.now
      → OfInput c.args.request.now (g.F.NamedFiles.contents c.args.files.now c.args.name.now) P
  of_file P h = (c.in_ok-input.input.items, is, subst (P c.args.request.now) c.as_slice-bytes.ensures.value h)
    where
      is : IsInputOf c.args.request.now (g.F.NamedFiles.contents c.args.files.now c.args.name.now) c.in_ok-input.input.items
      is = input_of_file c.args.request.now _ c.in_ok-input.input.items c.requires.named (search rules) c.in_ok-input.ensures.whole

  -- and no file was lost
  read_well : LeavesFiles false g.F.NamedFiles c.args.files.now c.read.new.self
  read_well = record {
    same = c.read.ensures.same;
    lasts = c.read.ensures.lasts;
    kept = λ none. c.in_ok-input.ensures.kept (λ is. absurd (cc is));
  }

pub returns-in_err-input : goal.returns-in_err-input
returns-in_err-input g c =
    let r = c.from_residual.result in
    let failure = c.in_err-input.field-0.0 in
    let error = run_error_of_input failure in
    let made = c.from_residual.ensures.1 in
    let shelf = g.F.NamedFiles in
    let known = shelf.contents c.args.files.now c.args.name.now in
    let files = c.args.files.now in
    let read = c.read.new.self in
    let name = c.args.name.now in
    record {
      written = left_nothing is_write_fault g.O.Sink (WithStatus r (AnswersFileBytes c.args.request.now known)) c.args.out.now r error made (input_unwritten failure);
      refused = handed (IsRefusedInput c.args.request.now known) r error made
          (input_refused c.args.request.now known failure (whatever_fault failure (named_reads c.args.request.now c.requires.named)) (λ same. c.in_err-input.ensures.too_long (ap Err same)));
      lost = handed (λ e. is_lost_file e ≡ true → shelf.has_failed read name ≡ true) r error made
          (input_lost (shelf.has_failed read name ≡ true) failure (λ same. c.in_err-input.ensures.failed (ap Err same)));
      answered = search rules;
      left = handed (λ e. LeavesFiles (is_lost_file e) shelf files read) r error made
          (input_leaves_files shelf files read failure c.in_err-input.ensures.same c.in_err-input.ensures.lasts
          (λ other. c.in_err-input.ensures.kept (λ is. absurd (other (cc is)))));
    }

pub returns-in_err-status : goal.returns-in_err-status
returns-in_err-status g c =
    let at = (goal.at.returns-in_err-status g c).After-as_slice-bytes in
    let request = c.args.request.now in
    let shelf = g.F.NamedFiles in
    let known = shelf.contents c.args.files.now c.args.name.now in
    let answer = WithStatus c.answer.result (Answers request c.as_slice-bytes.result.now) in
    let r = c.from_residual-in_err-status.result in
    let failure = c.in_err-status.field-0.0 in
    let error = run_error_of_solving failure in
    let made = c.from_residual-in_err-status.ensures.1 in
    record {
      written = left_up g.O.Sink answer (WithStatus r (AnswersFileBytes request known))
          (λ text h. (h.0, no_status (λ (s : Status). s ≡ h.0) _ r made, of_file g at (λ q bytes. Answers q bytes h.0 text) h.2)) c.args.out.now c.answer.new.out failure
          (left g.O.Sink answer c.args.out.now c.answer.new.out c.answer.result failure c.in_err-status.was c.answer.ensures.written) r made;
      refused = handed (IsRefusedInput request known) r error made
          (answer_refused request known failure (of_file g at (λ q bytes. IfInputFault failure (RefusesBytes q bytes)) c.in_err-status.ensures.refused));
      lost = handed (λ e. is_lost_file e ≡ true → shelf.has_failed c.read.new.self c.args.name.now ≡ true) r error made (λ is. absurd (cc (is, solving_not_lost failure)));
      answered = search rules;
      left = handed (λ e. LeavesFiles (is_lost_file e) shelf c.args.files.now c.read.new.self) r error made
          (subst (λ b. LeavesFiles b shelf c.args.files.now c.read.new.self) (sym (solving_not_lost failure)) (read_well g at));
    }

pub returns : goal.returns
returns g c =
    let at = (goal.at.returns g c).After-as_slice-bytes in
    let request = c.args.request.now in
    let known = g.F.NamedFiles.contents c.args.files.now c.args.name.now in
    let answer = WithStatus c.answer.result (Answers request c.as_slice-bytes.result.now) in
    let status = c.in_ok-status.status in
    record {
      written = less_sent g.O.Sink answer (WithStatus {E = RunError} (Ok status) (AnswersFileBytes request known))
          (λ text h. (h.0, subst (λ (r : Result Status SolveError). IfOk r (λ (s : Status). s ≡ h.0)) c.in_ok-status.was h.1, of_file g at (λ q bytes. Answers q bytes h.0 text) h.2))
          c.args.out.now c.answer.new.out
          (delivered g.O.Sink answer c.args.out.now c.answer.new.out c.answer.result status c.in_ok-status.was c.answer.ensures.written);
      refused = tt;
      lost = tt;
      answered = read_well g at;
      left = tt;
    }
