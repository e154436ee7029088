use Rattle.pb_report.proofs.Sending.{sends_then}
use Rattle.pb_report.proofs.vertex_line.write_field.Goals as goal

pub returns : goal.returns
returns g c = sends_then c.in_ok-write_number.ensures c.write.ensures
