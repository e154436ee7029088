use Rattle.pb_report.proofs.Sending.{sends_then, sends_err}
use Rattle.pb_report.proofs.evidence_text.write_dependency.Goals as goal

pub returns-in_err-write_instance_name : goal.returns-in_err-write_instance_name
returns-in_err-write_instance_name g c =
    sends_then c.in_ok-write.ensures (sends_err _ c.from_residual-in_err-write_instance_name.ensures.0 c.in_err-write_instance_name.ensures)

pub returns : goal.returns
returns g c = sends_then c.in_ok-write.ensures (sends_then c.in_ok-write_instance_name.ensures c.write_place.ensures)
