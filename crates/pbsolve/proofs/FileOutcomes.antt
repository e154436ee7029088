-- What becomes of a file that isn't answered, by the error.
use Rattle.std.proofs.Common.{◌≡◌, ◌≢◌, ◌||◌, ◌∙◌, ℕ, Bool, true, false, List, [], ◌∷◌, ap, inl, inr, refl, subst, sym}
use Rattle.std.specs.List.{All}
use Rattle.std.proofs.lemmas.List.Elements.{All-cons, All-head, All-nil, All-tail}
use Rattle.pb_command_faults.specs.declared.fault.ProgramFault.TheVariants.{U01, U02, E01, E02, M01}
use Rattle.pb_command_faults.specs.declared.solve_fault.SolveFault.{SolveFault}
use Rattle.pb_command_faults.specs.declared.solve_fault.SolveFault.TheVariants.{Text, Typing, Limit, Module, Acceptance, Property, TooManyVertices, NoProperty}
use Rattle.pb_command_line.specs.Status.{worse}
use Rattle.pb_command_line.specs.declared.request.Request.{Request}
use Rattle.pb_command_line.specs.declared.status.Status.{Status}
use Rattle.pb_command_line.specs.declared.status.Status.TheVariants as status
use Rattle.pb_command_files.specs.declared.named.NamedFiles.{Ghosts as FileGhosts}
use Rattle.pb_base.specs.declared.limits.TheConstants.{MAX_INPUT_BYTES}
use Rattle.pb_sorts.specs.Source.{IsLongerThan}
use Rattle.pbsolve.specs.declared.files.FileReport.{FileReport}
use Rattle.pbsolve.specs.declared.run_error.RunError.{RunError}
use Rattle.pbsolve.specs.declared.run_error.RunError.TheVariants.{ProgramFault, Refused}
use Rattle.pbsolve.specs.Endings.{IsRefusal, IsRefusedInput, LeavesFiles, ends_run, is_lost_file, outcome_form}
use Rattle.pbsolve.specs.Errors.{run_error_of_fault}
use Rattle.pbsolve.specs.Files.{IsFileOutcome, KnownFiles, Outcome, is_lost}
use Rattle.pbsolve.specs.Requests.{Answers, OfInput, RefusesBytes, error_line_of, status_of}

-- a fault but that a property isn't there is an error of its own
own_error : (fault : SolveFault) → fault ≢ NoProperty → run_error_of_fault fault ≡ Refused fault
own_error NoProperty other = absurd (other refl)
own_error (Text x) other = refl
own_error (Typing x) other = refl
own_error (Limit x) other = refl
own_error (Module x) other = refl
own_error (Acceptance x) other = refl
own_error (Property x) other = refl
own_error TooManyVertices other = refl

pub unanswered : (request : Request) (known : KnownFiles) (name : List ℕ) (e : RunError) (report : FileReport)
    → IsRefusedInput request (known.contents name) e → (is_lost_file e ≡ true → known.has_failed name ≡ true) → IsRefusal e report
    → IsFileOutcome request known (outcome_form name report)
unanswered request known name (ProgramFault U02) report h lost is = inr (inr (inl (h.1, is.status, is.diagnostics)), is.written)
unanswered request known name (ProgramFault U01) report h lost is = inr (inl (NoProperty, h, is.status, is.diagnostics), is.written)
unanswered request known name (ProgramFault E01) report h lost is = inr (inr (inr (lost refl, is.status, is.diagnostics)), is.written)
unanswered request known name (ProgramFault E02) report h lost is = absurd (cc is.alone)
unanswered request known name (ProgramFault M01) report h lost is = absurd (cc is.alone)
unanswered request known name (Refused fault) report h lost is =
    let own = sym (own_error fault h.0) in
    inr (inl (fault, h.1, is.status ∙ ap status_of own, is.diagnostics ∙ ap error_line_of own), is.written)

-- the status says whether the file couldn't be read
lost_status : (e : RunError) → ends_run e ≡ false → is_lost_file e ≡ is_lost (status_of e)
lost_status (ProgramFault U02) alone = refl
lost_status (ProgramFault U01) alone = refl
lost_status (ProgramFault E01) alone = refl
lost_status (ProgramFault E02) alone = absurd (cc alone)
lost_status (ProgramFault M01) alone = refl
lost_status (Refused fault) alone = refl

pub files_left : {F : Type 0} (shelf : FileGhosts F) (old new : F) (e : RunError) (report : FileReport) → IsRefusal e report
    → LeavesFiles (is_lost_file e) shelf old new → LeavesFiles (is_lost report.status) shelf old new
files_left shelf old new e report is h =
    subst (λ (b : Bool). LeavesFiles b shelf old new) (lost_status e is.alone ∙ ap is_lost (sym is.status)) h

-- ---- files that are read one after another

pub left_twice : {F : Type 0} (shelf : FileGhosts F) (old mid new : F) (first second : Bool) → LeavesFiles first shelf old mid → LeavesFiles second shelf mid new
    → LeavesFiles (first || second) shelf old new
left_twice shelf old mid new true second one two = record {
  same = λ name. two.same name ∙ one.same name;
  lasts = λ name failed. two.lasts name (one.lasts name failed);
  kept = λ none. absurd (cc none);
}
left_twice shelf old mid new false second one two = record {
  same = λ name. two.same name ∙ one.same name;
  lasts = λ name failed. two.lasts name (one.lasts name failed);
  kept = λ none name. two.kept none name ∙ one.kept refl name;
}

pub left_alone : {F : Type 0} (shelf : FileGhosts F) (files : F) → LeavesFiles false shelf files files
left_alone shelf files = record { same = λ name. refl; lasts = λ name failed. failed; kept = λ none name. refl }

-- what became of a file stays so, whichever are read after it
module _ (request : Request) (old new : KnownFiles) (same : (name : List ℕ) → new.contents name ≡ old.contents name)
    (lasts : (name : List ℕ) → old.has_failed name ≡ true → new.has_failed name ≡ true) where
  pub outcome_stays : (o : Outcome) → IsFileOutcome request old o → IsFileOutcome request new o
  outcome_stays o outcome =
      let known = sym (same o.name) in
      elim outcome [
        | inl answered ↦
            inl (subst (λ bytes. OfInput request bytes (λ r b. Answers r b o.status o.written)) known answered.0, answered.1)
        | inr unanswered ↦ inr (
          elim unanswered.0 [
            | inl refused ↦
                inl (refused.0, subst (λ bytes. OfInput request bytes (λ r b. RefusesBytes r b refused.0)) known refused.1, refused.2, refused.3)
            | inr other ↦ inr (elim other [
              | inl long ↦ inl (subst (IsLongerThan MAX_INPUT_BYTES) known long.0, long.1, long.2)
              | inr lost ↦ inr (lasts o.name lost.0, lost.1, lost.2)
            ])
          ],
          unanswered.1,
        )
      ]

  pub outcomes_stay : (files : List Outcome) → All (IsFileOutcome request old) files → All (IsFileOutcome request new) files
  outcomes_stay [] all = All-nil (IsFileOutcome request new)
  outcomes_stay (o ∷ before) all =
      All-cons (IsFileOutcome request new) o before (outcome_stays o (All-head (IsFileOutcome request old) o before all))
      (outcomes_stay before (All-tail (IsFileOutcome request old) o before all))

-- of two statuses the worse is that of a lost file where one of both is
pub worse_lost : (x y : Status) → is_lost (worse x y) ≡ (is_lost x || is_lost y)
worse_lost status.Answered status.Answered = refl
worse_lost status.Answered status.Unknown = refl
worse_lost status.Answered status.False = refl
worse_lost status.Answered status.Refused = refl
worse_lost status.Answered status.Usage = refl
worse_lost status.Answered status.OutOfMemory = refl
worse_lost status.Answered status.Failed = refl
worse_lost status.Unknown status.Answered = refl
worse_lost status.Unknown status.Unknown = refl
worse_lost status.Unknown status.False = refl
worse_lost status.Unknown status.Refused = refl
worse_lost status.Unknown status.Usage = refl
worse_lost status.Unknown status.OutOfMemory = refl
worse_lost status.Unknown status.Failed = refl
worse_lost status.False status.Answered = refl
worse_lost status.False status.Unknown = refl
worse_lost status.False status.False = refl
worse_lost status.False status.Refused = refl
worse_lost status.False status.Usage = refl
worse_lost status.False status.OutOfMemory = refl
worse_lost status.False status.Failed = refl
worse_lost status.Refused status.Answered = refl
worse_lost status.Refused status.Unknown = refl
worse_lost status.Refused status.False = refl
worse_lost status.Refused status.Refused = refl
worse_lost status.Refused status.Usage = refl
worse_lost status.Refused status.OutOfMemory = refl
worse_lost status.Refused status.Failed = refl
worse_lost status.Usage status.Answered = refl
worse_lost status.Usage status.Unknown = refl
worse_lost status.Usage status.False = refl
worse_lost status.Usage status.Refused = refl
worse_lost status.Usage status.Usage = refl
worse_lost status.Usage status.OutOfMemory = refl
worse_lost status.Usage status.Failed = refl
worse_lost status.OutOfMemory status.Answered = refl
worse_lost status.OutOfMemory status.Unknown = refl
worse_lost status.OutOfMemory status.False = refl
worse_lost status.OutOfMemory status.Refused = refl
worse_lost status.OutOfMemory status.Usage = refl
worse_lost status.OutOfMemory status.OutOfMemory = refl
worse_lost status.OutOfMemory status.Failed = refl
worse_lost status.Failed status.Answered = refl
worse_lost status.Failed status.Unknown = refl
worse_lost status.Failed status.False = refl
worse_lost status.Failed status.Refused = refl
worse_lost status.Failed status.Usage = refl
worse_lost status.Failed status.OutOfMemory = refl
worse_lost status.Failed status.Failed = refl
