use Rattle.pb_report.proofs.Sending.{sends_then, sends_err}
use Rattle.pb_report.proofs.answer.write_count.Goals as goal

pub returns-in_err-write_number : goal.returns-in_err-write_number
returns-in_err-write_number g c =
    sends_then c.in_ok-write.ensures (sends_err _ c.from_residual-in_err-write_number.ensures.0 c.in_err-write_number.ensures)

pub returns : goal.returns
returns g c = sends_then c.in_ok-write.ensures (sends_then c.in_ok-write_number.ensures c.write-2.ensures)
