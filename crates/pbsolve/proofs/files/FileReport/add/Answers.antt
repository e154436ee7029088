-- Each text is that of the files before, and the file's lines with their label.
use Rattle.std.proofs.Common.{rules}
use Rattle.pbsolve.proofs.files.FileReport.add.Goals as goal

pub returns : goal.returns
returns c = λ before so. record { end = search rules; written = search rules; diagnostics = search rules }
