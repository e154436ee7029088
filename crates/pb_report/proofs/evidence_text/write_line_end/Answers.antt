use Rattle.pb_report.proofs.Sending.{sends_then, sends_err}
use Rattle.pb_report.proofs.evidence_text.write_line_end.Goals as goal

pub returns-in_err-write_truth : goal.returns-in_err-write_truth
returns-in_err-write_truth g c = sends_err _ c.from_residual.ensures.0 c.in_err-write_truth.ensures

pub returns-in_err-write_dependencies : goal.returns-in_err-write_dependencies
returns-in_err-write_dependencies g c =
    sends_then c.in_ok-write_truth.ensures (sends_err _ c.from_residual-in_err-write_dependencies.ensures.0 c.in_err-write_dependencies.ensures)

pub returns-in_err-write_cut : goal.returns-in_err-write_cut
returns-in_err-write_cut g c =
    sends_then c.in_ok-write_truth.ensures (sends_then c.in_ok-write_dependencies.ensures (sends_err _ c.from_residual-in_err-write_cut.ensures.0 c.in_err-write_cut.ensures))

pub returns : goal.returns
returns g c = sends_then c.in_ok-write_truth.ensures (sends_then c.in_ok-write_dependencies.ensures (sends_then c.in_ok-write_cut.ensures c.write.ensures))
