-- What is written of files that are named: of each as if its bytes were standard input, with its
-- name before each line where there are several.
use Rattle.std.specs.Prelude.{◌≡◌, ◌≢◌, ◌⊎◌, ◌++◌, ◌||◌, ℕ, Bool, true, false, List, [], ◌∷◌}
use Rattle.std.specs.Prelude.{Option, Contains}
use Rattle.std.specs.List.{All}
use Rattle.pb_base.specs.declared.limits.TheConstants.{MAX_INPUT_BYTES}
use Rattle.pb_sorts.specs.Source.{IsLongerThan}
use Rattle.pb_command_faults.specs.Lines.{line_of}
use Rattle.pb_command_faults.specs.declared.fault.ProgramFault.TheVariants.{E01, U02}
use Rattle.pb_command_faults.specs.declared.solve_fault.SolveFault.{SolveFault}
use Rattle.pb_command_faults.specs.declared.solve_fault.SolveFault.TheVariants.{NoProperty}
use Rattle.pb_command_files.specs.Labels.{label_where, labelled}
use Rattle.pb_command_files.specs.declared.named.NamedFiles.{Ghosts as FileGhosts}
use Rattle.pb_command_line.specs.Status.{worse}
use Rattle.pb_command_line.specs.Words.{request_files}
use Rattle.pb_command_line.specs.declared.request.Request.{Request}
use Rattle.pb_command_line.specs.declared.status.Status.{Status}
use Rattle.pb_command_line.specs.declared.status.Status.TheVariants as status
use Rattle.pbsolve.specs.Errors.{run_error_of_fault}
use Rattle.pbsolve.specs.Requests.{Answers, OfInput, RefusesBytes, error_line_of, status_of}

-- what is known of the files that a run reads, by their names: their bytes before it, and whether
-- they couldn't be read
pub record KnownFiles : Type 0 where
  pub contents : List ℕ → Option (List ℕ)
  pub has_failed : List ℕ → Bool

abbrev pub known_files : {F : Type 0} → FileGhosts F → (old new : F) → KnownFiles
known_files shelf old new =
    record { contents = shelf.contents old; has_failed = shelf.has_failed new }

-- ---- one file

-- what becomes of a file: the exit status that it alone would have, the lines on standard output,
-- and the line on standard error
pub record Outcome : Type 0 where
  pub name : List ℕ
  pub status : Status
  pub written : List ℕ
  pub diagnostics : List ℕ

-- its bytes are answered
abbrev pub IsAnsweredFile : Request → KnownFiles → Outcome → Type 0
IsAnsweredFile request known o =
    OfInput request (known.contents o.name) (λ r bytes. Answers r bytes o.status o.written)
    × (o.diagnostics ≡ [])

-- they are refused by a fault, and the line is that fault's
abbrev pub IsRefusedContents : Request → KnownFiles → Outcome → Type 0
IsRefusedContents request known o =
    (fault : SolveFault)
    × OfInput request (known.contents o.name) (λ r bytes. RefusesBytes r bytes fault)
    × (o.status ≡ status_of (run_error_of_fault fault))
    × (o.diagnostics ≡ error_line_of (run_error_of_fault fault))

-- there are too many
abbrev pub IsLongFile : KnownFiles → Outcome → Type 0
IsLongFile known o =
    IsLongerThan MAX_INPUT_BYTES (known.contents o.name) × (o.status ≡ status.Refused)
    × (o.diagnostics ≡ line_of U02)

-- or the file couldn't be read
abbrev pub IsLostFile : KnownFiles → Outcome → Type 0
IsLostFile known o =
    (known.has_failed o.name ≡ true) × (o.status ≡ status.Failed) × (o.diagnostics ≡ line_of E01)

-- one of these holds; where the file isn't answered, nothing is written
abbrev pub IsFileOutcome : Request → KnownFiles → Outcome → Type 0
IsFileOutcome request known o =
    IsAnsweredFile request known o
    ⊎ ((IsRefusedContents request known o ⊎ (IsLongFile known o ⊎ IsLostFile known o))
    × (o.written ≡ []))

-- whether the status is that of a file that couldn't be read
abbrev pub is_lost : Status → Bool
is_lost status.Failed = true
is_lost _ = false

-- what precedes the line on standard error: the name, also of the only file where that couldn't be
-- read
abbrev pub diagnostic_label : Bool → Outcome → List ℕ
diagnostic_label several o = label_where (is_lost o.status || several) o.name

-- ---- all files, the last one first

-- their names, in order
abbrev pub names_of : List Outcome → List (List ℕ)
names_of [] = []
names_of (o ∷ before) = names_of before ++ o.name ∷ []

-- the lines on standard output
abbrev pub file_lines : Bool → List Outcome → List ℕ
file_lines several [] = []
file_lines several (o ∷ before) =
    file_lines several before ++ labelled (label_where several o.name) true o.written

-- those on standard error
abbrev pub file_diagnostics : Bool → List Outcome → List ℕ
file_diagnostics several [] = []
file_diagnostics several (o ∷ before) =
    file_diagnostics several before ++ labelled (diagnostic_label several o) true o.diagnostics

-- the exit status
abbrev pub end_of : List Outcome → Status
end_of [] = status.Answered
end_of (o ∷ before) = worse (end_of before) o.status

-- there are several names
abbrev pub are_several : List (List ℕ) → Bool
are_several [] = false
are_several (name ∷ []) = false
are_several (name ∷ other ∷ names) = true

-- each file that a request names is answered, in order: with this status, by this text on standard
-- error and this one on standard output
abbrev pub AnswersFiles : Request → KnownFiles → Status → List ℕ → List ℕ → Type 0
AnswersFiles request known end diagnostics written =
    (files : List Outcome) × (names_of files ≡ request_files request)
    × All (IsFileOutcome request known) files
    × (end ≡ end_of files)
    × (diagnostics ≡ file_diagnostics (are_several (request_files request)) files)
    × (written ≡ file_lines (are_several (request_files request)) files)

-- one of the files is a model that has no property of a name that is asked for
abbrev pub LackInFiles : Request → KnownFiles → Type 0
LackInFiles request known =
    (name : List ℕ) × Contains (request_files request) name
    × OfInput request (known.contents name) (λ r bytes. RefusesBytes r bytes NoProperty)
