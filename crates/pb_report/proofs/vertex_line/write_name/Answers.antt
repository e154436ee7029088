use Rattle.pb_report.proofs.Sending.{sends_then, sends_err}
use Rattle.pb_report.proofs.vertex_line.write_name.Goals as goal

pub returns-in_err-write : goal.returns-in_err-write
returns-in_err-write g c = sends_err _ c.from_residual.ensures.0 c.in_err-write.ensures

pub returns-in_err-write-2 : goal.returns-in_err-write-2
returns-in_err-write-2 g c = sends_then c.in_ok-write.ensures (sends_err _ c.from_residual-in_err-write-2.ensures.0 c.in_err-write-2.ensures)

pub returns : goal.returns
returns g c = sends_then c.in_ok-write.ensures (sends_then c.in_ok-write-2.ensures c.write-3.ensures)
