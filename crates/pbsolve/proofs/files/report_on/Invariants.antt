use Rattle.std.proofs.Common.{◌≡◌, ◌++◌, List, drop, map, string_bytes}
use Rattle.std.specs.List.{All}
use Rattle.pbsolve.specs.Endings.{IsFileReport, LeavesFiles}
use Rattle.pbsolve.specs.Files.{IsFileOutcome, Outcome, are_several, is_lost, known_files, names_of}
use Rattle.pb_command_line.specs.Words.{request_files}
use Rattle.pbsolve.proofs.files.report_on.Given as goal

-- the report is that of files whose names precede those that are left
abbrev pub invariant-loop-name : goal.invariant-loop-name
invariant-loop-name g l = record {
  read : (files : List Outcome) × (names_of files ++ map string_bytes (drop l.name-index l.names) ≡ request_files l.request)
      × All (IsFileOutcome l.request (known_files g.F.NamedFiles l.initial.files l.files)) files × IsFileReport (are_several (request_files l.request)) files l.report;
  left : LeavesFiles (is_lost l.report.status) g.F.NamedFiles l.initial.files l.files;
}
