use Rattle.std.proofs.Common.{sym, ap}
use Rattle.pb_report.proofs.Sending.{sends_as, sends_err, sends_then}
use Rattle.pb_report.specs.EvidenceText.{place_mark}
use Rattle.pb_report.proofs.evidence_text.write_place.Goals as goal

pub returns-in_err-write : goal.returns-in_err-write
returns-in_err-write g c = sends_as (ap place_mark (sym c.in-Some.is)) (sends_err _ c.from_residual.ensures.0 c.in_err-write.ensures)

pub returns-in_err-write_number : goal.returns-in_err-write_number
returns-in_err-write_number g c =
    sends_as (ap place_mark (sym c.in-Some.is)) (sends_then c.in_ok-write.ensures (sends_err _ c.from_residual-in_err-write_number.ensures.0 c.in_err-write_number.ensures))

pub returns-in_err-write-2 : goal.returns-in_err-write-2
returns-in_err-write-2 g c =
    sends_as (ap place_mark (sym c.in-Some.is))
    (sends_then c.in_ok-write.ensures (sends_then c.in_ok-write_number.ensures (sends_err _ c.from_residual-in_err-write-2.ensures.0 c.in_err-write-2.ensures)))

pub returns : goal.returns
returns g c =
    sends_as (ap place_mark (sym c.in-Some.is))
    (sends_then c.in_ok-write.ensures (sends_then c.in_ok-write_number.ensures (sends_then c.in_ok-write-2.ensures c.write_number-2.ensures)))
