use Rattle.std.proofs.Common.{◌-◌}
use Rattle.pb_game.specs.Games.{vertex_count}
use Rattle.pb_report.specs.CertificateText.{certificate_text, winner_lines}
use Rattle.pb_report.proofs.Underway.{IsUnderway}
use Rattle.pb_report.proofs.certificate_text.write_certificate.Given as goal

abbrev pub invariant-loop-number : goal.invariant-loop-number
invariant-loop-number g l =
    IsUnderway g.S.Sink l.fn.writer l.writer (certificate_text l.game l.solution) (winner_lines l.game l.solution l.number (vertex_count l.game - l.number))
