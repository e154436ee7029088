use Rattle.pb_report.proofs.Sending.{sends_then, sends_err}
use Rattle.pb_report.proofs.answer.write_counts.Goals as goal

pub returns-in_err-write_count : goal.returns-in_err-write_count
returns-in_err-write_count g c = sends_err _ c.from_residual.ensures.0 c.in_err-write_count.ensures

pub returns-in_err-write_count-2 : goal.returns-in_err-write_count-2
returns-in_err-write_count-2 g c =
    sends_then c.in_ok-write_count.ensures (sends_err _ c.from_residual-in_err-write_count-2.ensures.0 c.in_err-write_count-2.ensures)

pub returns : goal.returns
returns g c = sends_then c.in_ok-write_count.ensures (sends_then c.in_ok-write_count-2.ensures c.write_count-3.ensures)
