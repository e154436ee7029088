use Rattle.pb_report.proofs.Sending.{sends_then, sends_err}
use Rattle.pb_report.proofs.vertex_line.write_head.Goals as goal

pub returns-in_err-write_field-2 : goal.returns-in_err-write_field-2
returns-in_err-write_field-2 g c =
    sends_then c.in_ok-write_field.ensures (sends_err _ c.from_residual-in_err-write_field-2.ensures.0 c.in_err-write_field-2.ensures)

pub returns : goal.returns
returns g c = sends_then c.in_ok-write_field.ensures (sends_then c.in_ok-write_field-2.ensures c.write_field-3.ensures)
