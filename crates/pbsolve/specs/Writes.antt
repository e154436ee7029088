-- Which text each command writes for its input.
use Rattle.std.specs.Prelude.{ℕ, List, option_map, string_bytes}
use Rattle.pb_model_properties.specs.Printed.{IsTranslation}
use Rattle.pb_command_line.specs.declared.request.Task.{Task}
use Rattle.pb_command_line.specs.declared.request.Task.TheVariants as task
use Rattle.pb_command_faults.specs.declared.solve_fault.SolveFault.{SolveFault}
use Rattle.pb_command_modules.specs.Writes.{WritesAcceptance, WritesAnswer, WritesListing}
use Rattle.pb_command_modules.specs.Writes.{WritesCertificate, WritesGame, WritesSolution}
use Rattle.pb_command_modules.specs.Refusals.{IsUnlisted, IsUnverified, IsRefusedBytes}
use Rattle.pb_command_texts.specs.Refusals.{IsUncompiled, IsRefused}
use Rattle.pb_command_texts.specs.Writes.{WritesModule, WritesOfModule}
use Rattle.pb_command_texts.specs.Writes.{WritesTextEvidence, WritesTextReport}
use Rattle.pb_command_models.specs.Models.{IsUntranslated}
use Rattle.pb_command_models.specs.Why.{IsUnshown, WritesWhy}
use Rattle.pb_command_sizes.specs.Writes.{IsUnsizedInput}
use Rattle.pb_model_sizes.specs.Refusals.{AreSizesOf}

-- the command writes this text for the bytes
abbrev pub Writes : Task → List ℕ → List ℕ → Type 0
Writes (task.Solve o counting) bytes written = WritesTextReport counting bytes written
Writes (task.Game o counting) bytes written = WritesOfModule counting WritesGame bytes written
Writes (task.Solution o counting) bytes written =
    WritesOfModule counting WritesSolution bytes written
Writes (task.Certificate o counting) bytes written =
    WritesOfModule counting WritesCertificate bytes written
Writes (task.Explain o counting) bytes written = WritesTextEvidence counting o.places bytes written
Writes (task.Compile counting) bytes written = WritesOfModule counting WritesModule bytes written
Writes (task.Verify counting) bytes written = WritesAcceptance counting bytes written
Writes (task.List counting) bytes written = WritesListing counting bytes written
Writes (task.SolveCode o counting) bytes written = WritesAnswer counting bytes written
Writes (task.Translate o) bytes written =
    IsTranslation (option_map string_bytes o.property) bytes written
Writes (task.Why o) bytes written =
    WritesWhy o.lines (option_map string_bytes o.property) bytes written
Writes (task.Size o) bytes written = AreSizesOf (option_map string_bytes o.property) bytes written

-- what a fault says of the bytes for which the text was to be written
abbrev pub IsRefusedFor : Task → List ℕ → SolveFault → Type 0
IsRefusedFor (task.Solve o counting) = IsRefused counting
IsRefusedFor (task.Game o counting) = IsRefused counting
IsRefusedFor (task.Solution o counting) = IsRefused counting
IsRefusedFor (task.Certificate o counting) = IsRefused counting
IsRefusedFor (task.Explain o counting) = IsRefused counting
IsRefusedFor (task.Compile counting) = IsUncompiled counting
IsRefusedFor (task.Verify counting) = IsUnverified counting
IsRefusedFor (task.List counting) = IsUnlisted counting
IsRefusedFor (task.SolveCode o counting) = IsRefusedBytes counting
IsRefusedFor (task.Translate o) = IsUntranslated (option_map string_bytes o.property)
IsRefusedFor (task.Why o) = IsUnshown (option_map string_bytes o.property)
IsRefusedFor (task.Size o) = IsUnsizedInput (option_map string_bytes o.property)
