use Rattle.std.proofs.Common.{drop}
use Rattle.pb_report.specs.GameText.{more_numbers}
use Rattle.pb_report.proofs.Underway.{IsUnderway}
use Rattle.pb_report.proofs.vertex_line.write_more.Given as goal

abbrev pub invariant-loop-k : goal.invariant-loop-k
invariant-loop-k g l = IsUnderway g.S.Sink l.fn.writer l.writer (more_numbers l.numbers) (more_numbers (drop l.k l.numbers))
