use Rattle.std.proofs.Common.{refl, ap, ◌∙◌}
use Rattle.pb_fixpoint_trees.specs.Players.{parity_of}
use Rattle.pb_report.proofs.Sending.{sends_then, sends_err, sends_as}
use Rattle.pb_report.proofs.Certificates.{winner_is}
use Rattle.pb_report.proofs.certificate_text.write_line.Goals as goal

pub returns-in_err-write_field : goal.returns-in_err-write_field
returns-in_err-write_field g c = sends_err _ c.from_residual.ensures.0 c.in_err-write_field.ensures

pub returns-in_err-write_number : goal.returns-in_err-write_number
returns-in_err-write_number g c =
    sends_as (winner_is _ _ _ _ _ (c.parity.ensures ∙ ap parity_of c.winner.ensures) refl)
    (sends_then c.in_ok-write_field.ensures (sends_err _ c.from_residual-in_err-write_number.ensures.0 c.in_err-write_number.ensures))

pub returns : goal.returns
returns g c =
    sends_as (winner_is _ _ _ _ _ (c.parity.ensures ∙ ap parity_of c.winner.ensures) c.strategy_at.ensures)
    (sends_then c.in_ok-write_field.ensures (sends_then c.in_ok-write_number.ensures c.write_strategy.ensures))
