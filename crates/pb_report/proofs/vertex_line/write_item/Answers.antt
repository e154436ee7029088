use Rattle.pb_report.proofs.Sending.{sends_then}
use Rattle.pb_report.proofs.vertex_line.write_item.Goals as goal

pub returns : goal.returns
returns g c = sends_then c.in_ok-write.ensures c.write_number.ensures
