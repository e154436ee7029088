use Rattle.pb_report.proofs.Sending.{sends_then, sends_err}
use Rattle.pb_report.proofs.game_text.write_line.Goals as goal

pub returns-in_err-write_vertex : goal.returns-in_err-write_vertex
returns-in_err-write_vertex g c = sends_err _ c.from_residual.ensures.0 c.in_err-write_vertex.ensures

pub returns : goal.returns
returns g c = sends_then c.in_ok-write_vertex.ensures c.write_line_end.ensures
