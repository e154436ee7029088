use Rattle.pb_report.proofs.Sending.{sends_then}
use Rattle.pb_report.proofs.answer.write_report.Goals as goal

pub returns : goal.returns
returns g c = sends_then c.in_ok-write_answer.ensures c.write_counts.ensures
