-- A file's text is kept whole, or its error says what is wrong with it.
use Rattle.std.proofs.Common.{◌≡◌, Bool, true, List, ℕ, Result, Ok, Err, inl, rules, subst, sym}
use Rattle.std.specs.Prelude.{IfOk}
use Rattle.std.specs.declared.alloc.AllocError.{AllocError}
use Rattle.pb_command_files.specs.declared.named.NamedFiles.{Ghosts as FileGhosts}
use Rattle.pb_command_line.specs.declared.request.Request.{Request}
use Rattle.pb_command_line.specs.declared.status.Status.{Status}
use Rattle.pbsolve.specs.declared.files.FileReport.{FileReport}
use Rattle.pbsolve.specs.declared.run_error.RunError.{RunError}
use Rattle.pbsolve.specs.Endings.{IsRefusal, IsRefusedInput, LeavesFiles, ReportsFile, is_lost_file}
use Rattle.pbsolve.specs.Files.{known_files}
use Rattle.pbsolve.specs.Requests.{Answers, OfInput}
use Rattle.pbsolve.proofs.FileOutcomes.{files_left, unanswered}
use Rattle.pbsolve.proofs.Kept.{kept_text}
use Rattle.pbsolve.proofs.Refusals.{answers_end, end_is_not_lost}
use Rattle.pbsolve.proofs.files.report_of.Goals as goal

-- what an error comes to, where its line could be kept
refused : {F : Type 0} (request : Request) (name : List ℕ) (shelf : FileGhosts F) (files read_on : F) (e : RunError) (r : Result FileReport AllocError)
    → IsRefusedInput request (shelf.contents files name) e
    → (is_lost_file e ≡ true → shelf.has_failed read_on name ≡ true) → LeavesFiles (is_lost_file e) shelf files read_on
    → IfOk r (IsRefusal e) → IfOk r (ReportsFile request name shelf files read_on)
refused request name shelf files read_on e (Ok report) is lost left line = record {
  outcome = unanswered request (known_files shelf files read_on) name e report is lost line;
  left = files_left shelf files read_on e report line left;
}
refused request name shelf files read_on e (Err x) is lost left line = tt

pub returns-in-Ok : goal.returns-in-Ok
returns-in-Ok g c =
    let text = c.in-Ok.ensures.written.0 in
    let request = c.args.request.now in
    let known = g.F.NamedFiles.contents c.args.files.now c.args.name.now in
    let kept = kept_text _ _ c.into_bytes.result.items text.0 c.new-written.ensures.taken c.into_bytes.ensures text.2 in
    let answers = subst (λ (s : Status). OfInput request known (λ r bytes. Answers r bytes s text.0)) (sym text.1.1) text.1.2 in
    let end = answers_end request answers.0 c.in-Ok.status text.0 answers.2 in
    record {
      outcome = inl (subst (λ (t : List ℕ). OfInput request known (λ r bytes. Answers r bytes c.in-Ok.status t)) (sym kept) answers, search rules);
      left = subst (λ (b : Bool). LeavesFiles b g.F.NamedFiles c.args.files.now c.answer_file.new.files) (sym (end_is_not_lost c.in-Ok.status end)) c.in-Ok.ensures.answered;
    }

pub returns-in-Err : goal.returns-in-Err
returns-in-Err g c =
    refused c.args.request.now c.args.name.now g.F.NamedFiles c.args.files.now c.answer_file.new.files c.in-Err.error c.refusal.result
    c.in-Err.ensures.refused c.in-Err.ensures.lost c.in-Err.ensures.left c.refusal.ensures
