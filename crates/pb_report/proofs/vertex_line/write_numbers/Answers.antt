use Rattle.pb_report.proofs.Sending.{sends_then, sends_as}
use Rattle.pb_report.proofs.Commas.{first_number}
use Rattle.pb_report.proofs.vertex_line.write_numbers.Goals as goal

pub returns : goal.returns
returns g c =
    let ns = c.args.numbers.now in
    sends_as (first_number ns c.requires) (sends_then c.in_ok-write_number.ensures c.write_more.ensures)
